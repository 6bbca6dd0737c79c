use Rattle.std.proofs.Common.{◌≡◌, take, string_bytes}
use Rattle.show.specs.Shown.{hex}
use Rattle.show.proofs.to_hex.Given as goal

abbrev pub invariant-loop-b : goal.invariant-loop-b
invariant-loop-b l = string_bytes l.s ≡ hex (take l.b-index l.bytes)
