use Rattle.std.proofs.Common.{arith}
use Rattle.base.proofs.Comparisons.{told_more, told_all}
use Rattle.base.proofs.slices.agree.Goals as goal

pub loop-i-preserved : goal.loop-i-preserved
loop-i-preserved c = told_more c.args.a.now c.args.b.now c.loop-i.i c.loop-i.differing (omega arith) (omega arith) c.loop-i.invariant

pub returns : goal.returns
returns c = told_all c.args.a.now c.args.b.now c.loop-i.i c.loop-i.differing (omega arith) (omega arith) c.loop-i.invariant
