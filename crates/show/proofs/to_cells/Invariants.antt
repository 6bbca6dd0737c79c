use Rattle.std.proofs.Common.{◌≡◌, map, take, string_bytes}
use Rattle.show.specs.Shown.{cell}
use Rattle.show.proofs.to_cells.Given as goal

abbrev pub invariant-loop-b : goal.invariant-loop-b
invariant-loop-b l = string_bytes l.s ≡ map cell (take l.b-index l.bytes)
