use Rattle.std.proofs.Common.{refl}
use Rattle.compression.specs.Parts.{bytes_of}
use Rattle.two_pass.proofs.Sums.{summed_to}
use Rattle.two_pass.proofs.parts.sum_to_last.Goals as goal

pub returns-clause-summed : goal.returns-clause-summed
returns-clause-summed g c =
    let m = g.F.Compression in
    let q = g.met.F.Compression in
    let s = c.sum_front in
    summed_to m.WIDTH m.FEEDBACK q.wide.0 (λ p. p.long) (m.value c.args.f.now) c.args.kinds c.args.d (bytes_of c.args.sum) c.args.src.now s.result.1.now c.args.table.now c.requires.table _ s.result.0 c.times-kind.result c.next.result c.bitxor-2.result c.times-last_kind.result c.bitxor-offset.result c.last.result _ c.times-kind.ensures c.bitxor.ensures.is refl s.ensures.summing s.ensures.left c.WIDTH.ensures c.last.ensures c.times-last_kind.ensures c.next.ensures c.bitxor-2.ensures.is c.bitxor-offset.ensures.is
