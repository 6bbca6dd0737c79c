use Rattle.std.proofs.Common.{◌≡◌, length, get_or, sym, ap, ◌∙◌, arith}
use Rattle.std.proofs.lemmas.Grind.{common_steps}
use Rattle.std.specs.Int.Count.{count_trailing_zeros}
use Rattle.base.specs.Bytes.{xor}
use Rattle.compression.specs.Parts.{bytes_of}
use Rattle.frames.proofs.Counts.{ntz_below}
use Rattle.frames.proofs.offsets.OffsetTable.next.Goals as goal

pub returns : goal.returns
returns g c = λ L r.
    let n = count_trailing_zeros 64 c.args.i in
    let k = ntz_below 64 8 c.args.i (omega arith) (omega arith) in
    let long : length (L n) ≡ g.F.Compression.WIDTH = ap length (sym (r.are n k c.args.offset)) ∙ (get_or c.args.self.now.entries n c.args.offset).long in
    let w : c.write_front.new.out ≡ bytes_of c.args.offset = grind (arith, common_steps) in
    let l : length c.write_front.new.out ≡ g.F.Compression.WIDTH = ap length w ∙ c.args.offset.long in
    let f : bytes_of c.front.result ≡ c.next_into.new.offset = grind (arith, common_steps) in
    f ∙ c.next_into.ensures.whole L r (omega arith) ∙ ap (λ t. xor t (L n)) w
