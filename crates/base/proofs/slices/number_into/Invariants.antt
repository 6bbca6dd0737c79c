use Rattle.std.proofs.Common.{◌≡◌, ◌++◌, length, drop}
use Rattle.base.specs.Bytes.{digits}
use Rattle.base.proofs.slices.number_into.Given as goal

-- the digits that are left, and those that are written
abbrev pub invariant-loop-i : goal.invariant-loop-i
invariant-loop-i l = digits l.i l.rest ++ drop l.i l.out ≡ digits (length l.initial.out) l.t
