use Rattle.std.proofs.Common.{◌++◌, string_bytes, ap, ◌∙◌, arith}
use Rattle.std.proofs.lemmas.List.{take_all}
use Rattle.show.specs.Shown.{hex}
use Rattle.show.proofs.Pairs.{hex_more}
use Rattle.show.proofs.to_hex.Goals as goal

pub loop-b-preserved : goal.loop-b-preserved
loop-b-preserved c =
    let one = c.in_ok-push.ensures in
    let two = c.in_ok-push-2.ensures in
    let hi = c.hex_digit.ensures in
    let lo = c.hex_digit-in-loop-b.ensures in
    hex_more c.args.bytes.now (string_bytes c.loop-b.s) (string_bytes c.push.new.self) (string_bytes c.push-in-loop-b.new.self) c.loop-b.b-index c.hex_digit.result c.hex_digit-in-loop-b.result (omega arith) c.loop-b.invariant
    (one.bytes ∙ ap (λ t. string_bytes c.loop-b.s ++ t) (one.ascii hi.1))
    (two.bytes ∙ ap (λ t. string_bytes c.push.new.self ++ t) (two.ascii lo.1))
    hi.0 lo.0

pub returns : goal.returns
returns c = c.loop-b.invariant ∙ ap hex (take_all c.loop-b.b-index c.args.bytes.now (omega arith))
