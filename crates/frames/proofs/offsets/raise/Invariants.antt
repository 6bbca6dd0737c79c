use Rattle.std.proofs.Common.{◌≡◌}
use Rattle.base.specs.Bytes.{doubled}
use Rattle.compression.specs.Parts.{bytes_of}
use Rattle.frames.proofs.offsets.raise.Given as goal

abbrev pub invariant-loop : goal.invariant-loop
invariant-loop g l = bytes_of l.next ≡ doubled g.F.Compression.FEEDBACK l.counter (bytes_of l.initial.next)
