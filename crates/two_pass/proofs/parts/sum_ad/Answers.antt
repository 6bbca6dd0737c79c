use Rattle.std.proofs.Common.{length, sym, refl, ◌∙◌, rules}
use Rattle.std.proofs.lemmas.Bool.Decides.{Decides-eqb}
use Rattle.compression.specs.Parts.{bytes_of}
use Rattle.two_pass.proofs.Sums.{empty_ad, ad_is}
use Rattle.two_pass.proofs.parts.sum_ad.Goals as goal

pub returns-then-is_empty-clause-sum : goal.returns-then-is_empty-clause-sum
returns-then-is_empty-clause-sum g c =
    let m = g.F.Compression in
    let V = m.value c.args.f.now in
    empty_ad m.WIDTH m.FEEDBACK g.met.F.Compression.wide.0 V V (bytes_of c.args.d) refl (bytes_of c.zeros-zeros.result) c.args.ad.now c.zeros-zeros.ensures ((Decides-eqb (length c.args.ad.now) 0).0 (sym c.is_empty.ensures ∙ c.if-is_empty.true))

pub returns-clause-sum : goal.returns-clause-sum
returns-clause-sum g c =
    let m = g.F.Compression in
    let s = c.sum_to_last in
    ad_is m.WIDTH m.FEEDBACK g.met.F.Compression.wide.0 (m.value c.args.f.now) (m.value s.new.f) (bytes_of c.args.d) s.ensures.kept (bytes_of c.zeros-zeros.result) c.args.ad.now s.result.1.now (bytes_of c.hash.result) (bytes_of c.bitxor.result) s.result.0 c.zeros-zeros.ensures (search rules) s.ensures.summed c.hash.ensures.hash c.bitxor.ensures.is
