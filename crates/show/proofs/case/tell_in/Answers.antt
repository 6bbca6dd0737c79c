use Rattle.std.proofs.Common.{string_bytes}
use Rattle.std.proofs.lemmas.Result.{IfOk-weaker}
use Rattle.show.proofs.Telling.{told_body, told_error}
use Rattle.show.proofs.case.tell_in.Goals as goal

pub returns-in-Ok-clause-told : goal.returns-in-Ok-clause-told
returns-in-Ok-clause-told g c =
    let m = g.S.Scheme.meaning c.args.scheme.now in
    IfOk-weaker c.to_hex.result _ _ (λ s t. told_body m c.args.nonce.now c.args.ad.now c.args.page.now c.args.body.now (string_bytes s) c.in-Ok.n c.round_trip.new.body _ c.in-Ok.ensures.tripped.wrote c.in-Ok.ensures.body.1 t) c.to_hex.ensures

pub returns-in-Err-clause-told : goal.returns-in-Err-clause-told
returns-in-Err-clause-told g c =
    let m = g.S.Scheme.meaning c.args.scheme.now in
    IfOk-weaker c.format.result _ _ (λ s t. told_error m c.args.nonce.now c.args.ad.now c.args.page.now c.args.body.now (string_bytes s) c.in-Err.e c.args.back.now c.round_trip.new.body c.round_trip.new.back c.in-Err.ensures.tripped t) c.format.ensures.ok
