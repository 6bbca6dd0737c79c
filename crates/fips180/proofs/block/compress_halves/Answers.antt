use Rattle.fips180.proofs.Compressed.{compressed_from}
use Rattle.fips180.proofs.block.compress_halves.Goals as goal

pub returns-clause-output : goal.returns-clause-output
returns-clause-output g c =
    compressed_from g.W.Bits.sizes g.met.W.Bits.some c.args.h.now c.args.left.now c.args.right.now c.requires.left
    c.read_half.ensures c.read_half-2.ensures c.read_half-3.ensures c.from-start.ensures c.compress-end.ensures.value c.from.ensures c.write_half.ensures
