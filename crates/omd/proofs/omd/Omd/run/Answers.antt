use Rattle.std.proofs.Common.{◌≡◌, refl, ◌∙◌, ap₂}
use Rattle.base.specs.Bytes.{xor}
use Rattle.compression.specs.Parts.{bytes_of}
use Rattle.frames.specs.Directions.{page_of, cipher_of}
use Rattle.omd.specs.Omd.{ad_tag}
use Rattle.omd.proofs.Pages.{run_cipher, run_tag}
use Rattle.omd.proofs.omd.Omd.run.Goals as goal

pub returns-clause-cipher : goal.returns-clause-cipher
returns-clause-cipher g c =
    let m = g.F.Compression in
    let t = c.filled-table in
    let b = c.begin-start in
    let v2 = c.sum_ad-sum.ensures.kept ∙ t.ensures.kept in
    run_cipher m.WIDTH m.FEEDBACK (m.value c.args.self.now.setup.f) (m.value c.sum_ad-sum.new.f) (m.value b.new.f) _ _ c.args.inputs.nonce.now (bytes_of b.result.offset) (bytes_of b.result.value) _ t.result v2 (b.ensures.kept ∙ v2) refl t.ensures.filled.entries_are b.ensures.offset b.ensures.value (cipher_of c.args.direction c.args.src.now c.run_page.new.dst) c.run_page.ensures.cipher

pub returns-clause-tag : goal.returns-clause-tag
returns-clause-tag g c =
    let m = g.F.Compression in
    let V = m.value c.args.self.now.setup.f in
    let t = c.filled-table in
    let b = c.begin-start in
    let v1 = t.ensures.kept in
    let v2 = c.sum_ad-sum.ensures.kept ∙ v1 in
    let te = run_tag m.WIDTH m.FEEDBACK V (m.value c.sum_ad-sum.new.f) (m.value b.new.f) _ _ c.args.inputs.nonce.now (bytes_of b.result.offset) (bytes_of b.result.value) (page_of c.args.direction c.args.src.now c.run_page.new.dst) t.result v2 (b.ensures.kept ∙ v2) refl t.ensures.filled.entries_are b.ensures.offset b.ensures.value (bytes_of c.run_page.result) c.run_page.ensures.tag in
    let ta : bytes_of c.sum_ad-sum.result ≡ ad_tag m.WIDTH m.FEEDBACK V c.args.inputs.ad.now = rw v1 at c.sum_ad-sum.ensures.sum in
    c.bitxor.ensures.is ∙ ap₂ xor te ta
