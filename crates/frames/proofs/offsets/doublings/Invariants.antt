use Rattle.std.proofs.Common.{◌≡◌, length}
use Rattle.base.specs.Bytes.{doubled}
use Rattle.compression.specs.Parts.{bytes_of}
use Rattle.frames.specs.Offsets.{Doublings}
use Rattle.frames.proofs.offsets.doublings.Given as goal

abbrev pub invariant-loop-entry : goal.invariant-loop-entry
invariant-loop-entry g l =
    let fb = g.F.Compression.FEEDBACK in
    (length l.entry-items ≡ 8) × (bytes_of l.next ≡ doubled fb l.entry-index (bytes_of l.initial.next)) × Doublings fb (bytes_of l.initial.next) l.entry-index l.entry-items
