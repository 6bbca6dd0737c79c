use Rattle.std.proofs.Common.{◌≡◌, ◌+◌, ◌*◌, ◌≤◌, ◌∙◌, map, length, arith}
use Rattle.std.proofs.lemmas.List.{length-map, length-set, take_all}
use Rattle.fips180.specs.Compression.{words}
use Rattle.fips180.proofs.Mapped.{filled_more, slot_fits}
use Rattle.fips180.proofs.Strings.{word_of, words_length}
use Rattle.fips180.proofs.block.read_half.Goals as goal

pub loop-i-preserved : goal.loop-i-preserved
loop-i-preserved g c =
    let z = g.W.Bits.sizes in
    let half = c.args.half.now in
    let i = c.loop-i.i in
    let l = words_length z g.met.W.Bits.some 8 half c.requires in
    let fits : z.bytes * (i + 1) ≤ length half = slot_fits z.bytes i 8 _ (omega arith) c.requires in
    let front = filled_more g.W.Bits.val c.loop-i.word-items (words z half) i c.read.result (omega arith) (omega arith)
    (c.read.ensures ∙ word_of z g.met.W.Bits.some half _ i (omega (arith, g.met.W.Bits.size)) fits) c.loop-i.invariant.front in
    record { long = simp length-set c.loop-i.invariant.long; front = front }

pub returns : goal.returns
returns g c =
    let l = words_length g.W.Bits.sizes g.met.W.Bits.some 8 c.args.half.now c.requires in
    let n : length (map g.W.Bits.val c.loop-i.word-items) ≡ 8 = simp length-map c.loop-i.invariant.long in
    let a = take_all c.loop-i.i (map g.W.Bits.val c.loop-i.word-items) (omega arith) in
    let b = take_all c.loop-i.i (words g.W.Bits.sizes c.args.half.now) (omega arith) in
    let e = c.loop-i.invariant.front in
    cc
