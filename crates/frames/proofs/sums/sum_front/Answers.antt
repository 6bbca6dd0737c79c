use Rattle.std.proofs.Common.{◌*◌, ap, ◌∙◌, arith}
use Rattle.frames.specs.Progress.{Absorbed}
use Rattle.frames.proofs.Summings.{summing_at}
use Rattle.frames.proofs.sums.sum_front.Goals as goal

pub loop-rest-preserved : goal.loop-rest-preserved
loop-rest-preserved g c =
    let m = g.F.Compression in
    let v = c.loop-rest.invariant.0 in
    let s = c.split_at in
    let t : Absorbed m.WIDTH (m.value c.args.f.now) c.args.table.now c.loop-rest.pass s.result.0.now c.absorb-pass.result = rw v at c.absorb-pass.ensures.absorbed in (
      c.absorb-pass.ensures.kept ∙ v,
      summing_at m.WIDTH g.met.F.Compression.wide.0 (m.value c.args.f.now) c.args.table.now c.args.start c.args.src.now (2 * c.WIDTH-size.result) (ap (λ n. 2 * n) c.WIDTH-size.ensures) c.loop-rest.pass c.absorb-pass.result c.loop-rest.rest.now _ _ (omega arith) s.ensures.front s.ensures.back c.loop-rest.invariant.1 t,
    )
