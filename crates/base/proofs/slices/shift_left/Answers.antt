use Rattle.std.proofs.Common.{◌≡◌, ◌+◌, ◌/◌, ◌≤◌, get_or, sym, ap, ◌∙◌, arith}
use Rattle.std.proofs.lemmas.List.{get_or_past}
use Rattle.base.proofs.Numbers.{shift_more, shift_all, same_next}
use Rattle.base.proofs.slices.shift_left.Goals as goal
use Rattle.base.proofs.slices.shift_left.Goals.{then-i-x, else-i-x}

pub loop-i-preserved : goal.loop-i-preserved
loop-i-preserved c =
    let x = c.loop-i.x in
    let x0 = c.args.x.now in
    let i = c.loop-i.i in
    let inv = c.loop-i.invariant in
    let past : get_or x (i + 1) 0 ≡ get_or x0 (i + 1) 0 = same_next x x0 i inv.1 in
    let top : c.if-i-x.carry ≡ get_or x0 (i + 1) 0 / 128 = elim c.if-i-x.branch [
      | then-i-x w ↦ w.carry-is ∙ ap (λ y. y / 128) past
      | else-i-x w ↦ w.carry-is ∙ ap (λ y. y / 128) (sym (get_or_past x0 (i + 1) 0 (omega arith)))
    ] in
    let small : c.if-i-x.carry ≤ 1 = elim c.if-i-x.branch [ then-i-x w ↦ omega arith | else-i-x w ↦ omega arith ] in
    shift_more x x0 i c.if-i-x.carry (omega arith) (omega arith) inv.0 inv.1 top small

pub returns : goal.returns
returns c = shift_all c.loop-i.x c.args.x.now c.loop-i.i (omega arith) (omega arith) (omega arith) c.loop-i.invariant.0
