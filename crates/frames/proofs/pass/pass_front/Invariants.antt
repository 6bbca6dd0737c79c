use Rattle.std.proofs.Common.{◌≡◌, ◌-◌, length}
use Rattle.frames.specs.Progress.{Going}
use Rattle.frames.proofs.pass.pass_front.Given as goal

abbrev pub invariant-loop-at : goal.invariant-loop-at
invariant-loop-at g l =
    let m = g.F.Compression in
    (m.value l.f ≡ m.value l.initial.f) × Going m.WIDTH (m.value l.initial.f) l.table l.rule l.initial.pass l.src l.dst l.pass l.at

abbrev pub decreases-loop-at : goal.decreases-loop-at
decreases-loop-at g l = length l.src - l.at
