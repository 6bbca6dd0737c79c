use Rattle.std.proofs.Common.{arith}
use Rattle.mixer.specs.Mixes.{mixed_all}
use Rattle.mixer.proofs.mix.Goals as goal

pub returns : goal.returns
returns c = mixed_all c.args.h.now c.args.m.now c.loop-i.out (omega arith) (omega arith) (omega arith) (λ k l. c.loop-i.invariant k (omega arith))
