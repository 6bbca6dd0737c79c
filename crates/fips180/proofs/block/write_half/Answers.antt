use Rattle.std.proofs.Common.{◌+◌, ◌*◌, ◌<◌, ◌≤◌, map, length, sym, arith}
use Rattle.std.proofs.lemmas.List.{get_or-map, length-map}
use Rattle.fips180.proofs.Mapped.{written_more, slot_fits}
use Rattle.fips180.proofs.block.write_half.Goals as goal

pub loop-i-preserved : goal.loop-i-preserved
loop-i-preserved g c =
    let b = g.W.Bits.sizes.bytes in
    let v = g.W.Bits.val in
    let i = c.loop-i.i in
    let words = c.args.words in
    let l : i < length (map v words) = simp length-map (omega arith) in
    let fits : b * (i + 1) ≤ length c.loop-i.out = slot_fits b i 8 _ (omega arith) (omega arith) in
    written_more b c.BYTES-n.result i _ c.loop-i.out _ (map v words) (omega (arith, g.met.W.Bits.size)) l fits
    (sym (get_or-map v words i c.word-item.result 0 (omega arith))) c.write.ensures c.loop-i.invariant
