use Rattle.std.proofs.Common.{◌≡◌, ◌++◌, length, take, drop, sym, ap, ◌∙◌, arith}
use Rattle.std.proofs.lemmas.List.{length-take, length-take-le, take_at}
use Rattle.base.proofs.Parts.{from_zero}
use Rattle.compression.specs.Parts.{bytes_of}
use Rattle.omd.specs.Laws.{tells, only}
use Rattle.omd.proofs.omd.sealing.OmdMode.recover_block.Goals as goal

pub returns-clause-recovered : goal.returns-clause-recovered
returns-clause-recovered g c =
    let m = g.F.Compression in
    let q = g.met.F.Compression in
    let z = q.wide.0 in
    let s = c.args.self.now in
    let n = c.args.inputs.nonce.now in
    let a = c.args.inputs.ad.now in
    let k = length c.args.page.now in
    let cipher = ap (λ i. take i c.args.body.now) (from_zero k) ∙ c.run.ensures.cipher in
    let t = s.setup.tag_len in
    let block = bytes_of c.run.result in
    let most = q.wide.1 in
    let high = s.setup.high in
    let low : length (take t c.args.out.now) ≡ t = simp length-take (omega arith) in
    let front : c.write_front.new.out ≡ take t block = c.write_front.ensures ∙ ap (λ i. take i block) low in
    let tag : take t (c.write_front.new.out ++ drop t c.args.out.now) ≡ take t block = take_at c.write_front.new.out (drop t c.args.out.now) t (ap length front ∙ length-take-le t block (omega (arith, c.run.result.long))) ∙ front in
    record {
      tells = λ e. tells m.WIDTH m.FEEDBACK (omega arith) (m.value s.setup.f) (q.sized s.setup.f) s.setup.tag_len s.setup.high n a k c.args.body.now c.run.new.dst (bytes_of c.run.result) (omega arith) c.requires.body cipher c.run.ensures.tag (sym tag ∙ e);
      only = λ p e. tag ∙ only m.WIDTH m.FEEDBACK (omega arith) (m.value s.setup.f) (q.sized s.setup.f) s.setup.tag_len s.setup.high n a k c.args.body.now c.run.new.dst (bytes_of c.run.result) (omega arith) c.requires.body cipher c.run.ensures.tag p e;
    }
