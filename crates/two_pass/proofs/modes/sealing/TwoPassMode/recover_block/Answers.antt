use Rattle.std.proofs.Common.{◌≡◌, ◌-◌, ◌++◌, length, take, drop, sym, refl, ap, ◌∙◌, arith}
use Rattle.std.proofs.lemmas.List.{length-take, length-take-le, take_at}
use Rattle.base.specs.Bytes.{filled}
use Rattle.base.proofs.Parts.{from_zero, part_end}
use Rattle.compression.specs.Parts.{bytes_of}
use Rattle.two_pass.specs.Laws.{recovers}
use Rattle.two_pass.proofs.modes.sealing.TwoPassMode.recover_block.Goals as goal

pub returns-clause-recovered : goal.returns-clause-recovered
returns-clause-recovered g c =
    let m = g.F.Compression in
    let q = g.met.F.Compression in
    let z = q.wide.0 in
    let k = g.K.Chaining.keystream in
    let s = c.args.self.now.setup in
    let v1 = c.prepare.ensures.kept in
    let v2 = c.encipher.ensures.kept ∙ v1 in
    let whole = c.args.body.now in
    let t = s.tag_len in
    let front = c.split_at.ensures.front ∙ ap (λ i. take i whole) (sym (from_zero t)) in
    let back = part_end t (length whole - t) whole (omega arith) ∙ sym c.split_at.ensures.back in
    let block = bytes_of c.tag_block.result in
    let most = q.wide.1 in
    let high = s.high in
    let tag_long : length c.split_at.result.0.now ≡ t = omega (arith, c.split_at.ensures.front_len) in
    let low : length (take (length c.split_at.result.0.now) c.args.out.now) ≡ t = simp length-take (omega arith) in
    let front_is : c.write_front.new.out ≡ take t block = c.write_front.ensures ∙ ap (λ i. take i block) low in
    let tag : take t (c.write_front.new.out ++ drop (length c.split_at.result.0.now) c.args.out.now) ≡ take t block = take_at c.write_front.new.out (drop (length c.split_at.result.0.now) c.args.out.now) t (ap length front_is ∙ length-take-le t block (omega (arith, c.tag_block.result.long))) ∙ front_is in
    let r = recovers m.WIDTH m.FEEDBACK (omega arith) (m.value s.f) (q.sized s.f) k s.tag_len s.high c.args.inputs.nonce.now c.args.inputs.ad.now (bytes_of c.prepare.result.1) c.prepare.ensures.offset _ _ v1 v2 t _ _ refl refl c.prepare.ensures.same whole c.encipher.new.dst block (bytes_of c.filled.result) (omega arith) (c.filled.ensures ∙ ap (filled _) front) (back ∙ c.encipher.ensures.cipher) c.tag_block.ensures.tag in
    record { tells = λ e. r.tells (sym tag ∙ e); only = λ p e. tag ∙ r.only p e }
