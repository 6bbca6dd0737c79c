use Rattle.std.proofs.Common.{length, sym, refl, ◌∙◌, rules}
use Rattle.std.proofs.lemmas.Bool.Decides.{Decides-eqb}
use Rattle.compression.specs.Parts.{bytes_of}
use Rattle.omd.proofs.Pages.{empty_ad, ad_summed}
use Rattle.omd.proofs.parts.sum_ad.Goals as goal

pub returns-then-is_empty : goal.returns-then-is_empty
returns-then-is_empty g c =
    let m = g.F.Compression in
    record {
      kept = refl;
      sum = empty_ad m.WIDTH m.FEEDBACK g.met.F.Compression.wide.0 (m.value c.args.f.now) (bytes_of c.zeros-zeros.result) c.args.ad.now c.zeros-zeros.ensures ((Decides-eqb (length c.args.ad.now) 0).0 (sym c.is_empty.ensures ∙ c.if-is_empty.true));
    }

pub returns : goal.returns
returns g c =
    let m = g.F.Compression in
    let s = c.sum_front in
    record {
      kept = c.hash.ensures.kept ∙ s.ensures.kept;
      sum = ad_summed m.WIDTH m.FEEDBACK g.met.F.Compression.wide.0 (m.value c.args.f.now) c.args.table.now (bytes_of c.zeros-zeros.result) c.args.ad.now s.result.1.now (bytes_of c.ad_end-offset.result) (bytes_of c.hash.result) (bytes_of c.bitxor.result) _ s.result.0 _ (m.value s.new.f) c.WIDTH.ensures s.ensures.kept c.zeros-zeros.ensures refl refl c.requires.table (search rules) s.ensures.left s.ensures.summing c.ad_end-offset.ensures c.hash.ensures.hash c.bitxor.ensures.is;
    }
