use Rattle.std.proofs.Common.{◌≡◌, take, sym, ◌∙◌, arith}
use Rattle.std.proofs.lemmas.Bool.Decides.{Decides-eqb}
use Rattle.std.proofs.lemmas.Slice.Eq.{slice_eq-Decides}
use Rattle.worked_examples.proofs.Behind.{behind}
use Rattle.worked_examples.proofs.seals_to.Goals as goal

pub returns-then-eq-clause-seals : goal.returns-then-eq-clause-seals
returns-then-eq-clause-seals g c =
    let trip = c.in-Ok.ensures.tripped in
    let same : take c.in-Ok.n c.round_trip.new.body ≡ c.args.expected.now = (slice_eq-Decides Decides-eqb _ _ _ c.eq.ensures).0 c.if-eq.true in
    let none : c.changed.result ≡ 0 = c.changed.ensures ∙ behind c.args.page.now c.round_trip.new.back 64 trip.page (omega arith) in
    (λ t. record { may = trip.wrote.may; gives = sym c.in-Ok.ensures.body.1 ∙ same }, λ s. (Decides-eqb c.changed.result 0).1 none)
