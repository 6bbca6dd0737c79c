use Rattle.std.proofs.Common.{[], ◌∷◌, ◌++◌, map, string_bytes, sym, ap, ◌∙◌, ap₂, arith}
use Rattle.std.proofs.lemmas.List.{take_all, map_more}
use Rattle.show.specs.Shown.{cell}
use Rattle.show.proofs.to_cells.Goals as goal

pub loop-b-preserved : goal.loop-b-preserved
loop-b-preserved c =
    let more = c.in_ok-push.ensures in
    let b = c.shown.ensures in
    more.bytes ∙ ap (λ t. string_bytes c.loop-b.s ++ t) (more.ascii b.1) ∙ ap₂ (λ s y. s ++ y ∷ []) c.loop-b.invariant b.0 ∙ sym (map_more cell c.args.bytes.now c.loop-b.b-index 0 (omega arith))

pub returns : goal.returns
returns c = c.loop-b.invariant ∙ ap (map cell) (take_all c.loop-b.b-index c.args.bytes.now (omega arith))
