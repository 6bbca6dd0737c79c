use Rattle.compression.specs.Parts.{bytes_of}
use Rattle.two_pass.proofs.Sums.{tag_is}
use Rattle.two_pass.proofs.parts.hash_page.Goals as goal

pub returns-clause-tag : goal.returns-clause-tag
returns-clause-tag g c =
    let m = g.F.Compression in
    let s = c.sum_to_last in
    tag_is m.WIDTH m.FEEDBACK g.met.F.Compression.wide.0 (m.value c.args.f.now) (m.value s.new.f) (bytes_of c.args.d) s.ensures.kept (bytes_of c.args.sum) c.args.page.now s.result.1.now (bytes_of c.bitxor.result) (bytes_of c.hash.result) s.result.0 s.ensures.summed c.bitxor.ensures.is c.hash.ensures.hash
