use Rattle.std.proofs.Common.{◌≡◌, length, take, ap, ◌∙◌, arith}
use Rattle.compression.specs.Parts.{bytes_of}
use Rattle.omd.specs.Laws.{sealed_parts}
use Rattle.omd.proofs.omd.sealing.OmdMode.encrypt.Goals as goal

pub returns-clause-body : goal.returns-clause-body
returns-clause-body g c =
    let m = g.F.Compression in
    let q = g.met.F.Compression in
    let z = q.wide.0 in
    let s = c.args.self.now in
    let back : length c.split_at_mut-cipher.result.1.now ≡ s.setup.tag_len = omega (arith, c.split_at_mut-cipher.ensures.back_len, c.requires.body) in
    sealed_parts m.WIDTH m.FEEDBACK (omega arith) (m.value s.setup.f) (q.sized s.setup.f) s.setup.tag_len s.setup.high c.args.inputs.nonce.now c.args.inputs.ad.now c.args.page.now c.run.new.dst (bytes_of c.run.result) c.write_front.new.out c.run.ensures.cipher c.run.ensures.tag (c.write_front.ensures ∙ ap (λ i. take i (bytes_of c.run.result)) back)
