use Rattle.compression.specs.Parts.{bytes_of}
use Rattle.frames.specs.Directions.{page_of, cipher_of}
use Rattle.two_pass.proofs.Keystreams.{enciphers}
use Rattle.two_pass.proofs.modes.TwoPass.encipher.Goals as goal

pub returns-clause-cipher : goal.returns-clause-cipher
returns-clause-cipher g c =
    let m = g.F.Compression in
    let s = c.args.self.now.setup in
    let b = c.first_block-start in
    enciphers m.WIDTH m.FEEDBACK (m.value s.f) (bytes_of c.args.d) s.tag_len c.args.v c.tag_bits-bits.result c.tag_bits-bits.ensures (m.value b.new.f) g.K.Chaining.keystream c.feed.result c.args.table.now (bytes_of b.result.offset) (bytes_of b.result.value) (cipher_of c.args.direction c.args.src.now c.pass_all.new.dst) (page_of c.args.direction c.args.src.now c.pass_all.new.dst) b.ensures.kept c.feed.ensures c.requires.filled b.ensures.offset b.ensures.value c.pass_all.ensures.cipher
