use Rattle.std.proofs.Common.{◌≡◌, ◌+◌, ◌*◌, ◌/◌, get_or, take, drop}
use Rattle.base.specs.Bytes.{digits, number}
use Rattle.base.proofs.slices.shift_left.Given as goal

-- the front is shifted, with the top bit of the next byte; the rest is as it was
abbrev pub invariant-loop-i : goal.invariant-loop-i
invariant-loop-i l = (take l.i l.x ≡ digits l.i (2 * number (take l.i l.initial.x) + get_or l.initial.x l.i 0 / 128)) × (drop l.i l.x ≡ drop l.i l.initial.x)
