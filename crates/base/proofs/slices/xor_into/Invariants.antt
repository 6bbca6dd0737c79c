use Rattle.std.proofs.Common.{◌≡◌, ◌++◌, length, take, drop}
use Rattle.base.specs.Bytes.{xor}
use Rattle.base.proofs.slices.xor_into.Given as goal

abbrev pub invariant-loop-i : goal.invariant-loop-i
invariant-loop-i l = take l.i l.dst ++ (xor (drop l.i l.dst) (drop l.i l.src) ++ drop (length (drop l.i l.src)) (drop l.i l.dst)) ≡ xor l.initial.dst l.src ++ drop (length l.src) l.initial.dst
