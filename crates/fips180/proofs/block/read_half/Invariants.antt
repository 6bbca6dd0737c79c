use Rattle.std.proofs.Common.{◌≡◌, map, length, take}
use Rattle.fips180.specs.Compression.{words}
use Rattle.fips180.proofs.block.read_half.Given as goal

abbrev pub invariant-loop-i : goal.invariant-loop-i
invariant-loop-i g l = record {
  long : length l.word-items ≡ 8;
  front : take l.i (map g.W.Bits.val l.word-items) ≡ take l.i (words g.W.Bits.sizes l.half);
}
