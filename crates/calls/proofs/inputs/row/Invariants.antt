use Rattle.std.proofs.Common.{◌≡◌, ◌-◌, ◌++◌}
use Rattle.calls.specs.Inputs.{row}
use Rattle.calls.proofs.inputs.row.Given as goal

-- what is made so far, and what is still to come
abbrev pub invariant-loop : goal.invariant-loop
invariant-loop l = l.bytes.items ++ row (l.n - l.counter) l.next l.step ≡ row l.n l.start l.step
