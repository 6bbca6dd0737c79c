use Rattle.std.proofs.Common.{◌≡◌, length}
use Rattle.frames.specs.Progress.{Summing}
use Rattle.frames.proofs.sums.sum_front.Given as goal

abbrev pub invariant-loop-rest : goal.invariant-loop-rest
invariant-loop-rest g l =
    let m = g.F.Compression in
    (m.value l.f ≡ m.value l.initial.f) × Summing m.WIDTH (m.value l.initial.f) l.table l.initial.pass l.src l.pass l.rest

abbrev pub decreases-loop-rest : goal.decreases-loop-rest
decreases-loop-rest g l = length l.rest
