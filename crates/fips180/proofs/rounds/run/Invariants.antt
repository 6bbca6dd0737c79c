use Rattle.std.proofs.Common.{◌≡◌, map, take}
use Rattle.std.specs.Iterator.Adapters.{zip_first, zip_second}
use Rattle.std.specs.Slice.Iter.{iter_rest}
use Rattle.fips180.specs.Compression.{rounds}
use Rattle.fips180.specs.Values.{values}
use Rattle.fips180.proofs.Schedules.{Going}
use Rattle.fips180.proofs.rounds.run.Given as goal

abbrev pub invariant-loop-t : goal.invariant-loop-t
invariant-loop-t g l =
    let v = g.W.Bits.val in
    Going g.W.Bits.sizes (values v l.initial.s) g.W.Bits.sizes.constants (take 16 (map v l.initial.w)) (map v l.w) l.t (values v l.s)

abbrev pub invariant-loop-k : goal.invariant-loop-k
invariant-loop-k g l =
    let v = g.W.Bits.val in
    rounds g.W.Bits.sizes (values v l.s) (map v (iter_rest (zip_first l.k-iterator))) (map v (iter_rest (zip_second l.k-iterator)))
    ≡ rounds g.W.Bits.sizes (values v l.initial.s) (map v (iter_rest (zip_first l.initial.k-iterator))) (map v (iter_rest (zip_second l.initial.k-iterator)))
