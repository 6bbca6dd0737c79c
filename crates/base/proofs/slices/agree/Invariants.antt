use Rattle.std.proofs.Common.{◌≡◌, take}
use Rattle.base.proofs.slices.agree.Given as goal

-- no bit has differed so far exactly where the parts agree so far
abbrev pub invariant-loop-i : goal.invariant-loop-i
invariant-loop-i l = (l.differing ≡ 0 → take l.i l.a ≡ take l.i l.b) × (take l.i l.a ≡ take l.i l.b → l.differing ≡ 0)
