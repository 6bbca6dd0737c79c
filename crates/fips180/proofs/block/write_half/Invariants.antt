use Rattle.std.proofs.Common.{◌≡◌, ◌*◌, map, take}
use Rattle.std.specs.List.{flat_map}
use Rattle.base.specs.Bytes.{digits}
use Rattle.fips180.proofs.block.write_half.Given as goal

abbrev pub invariant-loop-i : goal.invariant-loop-i
invariant-loop-i g l = take (g.W.Bits.sizes.bytes * l.i) l.out ≡ flat_map (digits g.W.Bits.sizes.bytes) (take l.i (map g.W.Bits.val l.word-items))
