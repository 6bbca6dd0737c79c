use Rattle.std.proofs.Common.{◌≡◌, length, take, refl, ap, ◌∙◌, arith}
use Rattle.compression.specs.Parts.{bytes_of}
use Rattle.two_pass.specs.Laws.{seals_parts}
use Rattle.two_pass.proofs.modes.sealing.TwoPassMode.encrypt.Goals as goal

pub returns-clause-body : goal.returns-clause-body
returns-clause-body g c =
    let m = g.F.Compression in
    let q = g.met.F.Compression in
    let z = q.wide.0 in
    let k = g.K.Chaining.keystream in
    let s = c.args.self.now.setup in
    let v1 = c.prepare.ensures.kept in
    let v2 = c.tag_block.ensures.kept ∙ v1 in
    let t2 = c.tag_block.ensures.same ∙ c.prepare.ensures.same in
    let front : length c.split_at_mut-tag.result.0.now ≡ s.tag_len = omega (arith, c.split_at_mut-tag.ensures.front_len) in
    seals_parts m.WIDTH m.FEEDBACK (omega arith) (m.value s.f) (q.sized s.f) k s.tag_len s.high c.args.inputs.nonce.now c.args.inputs.ad.now (bytes_of c.prepare.result.1) c.prepare.ensures.offset _ _ v1 v2 s.tag_len _ _ refl refl t2 c.args.page.now (bytes_of c.tag_block.result) (bytes_of c.filled.result) c.write_front.new.out c.encipher.new.dst c.tag_block.ensures.tag (c.write_front.ensures ∙ ap (λ i. take i (bytes_of c.tag_block.result)) front) c.filled.ensures c.encipher.ensures.cipher
