use Rattle.std.proofs.Common.{◌∙◌, arith}
use Rattle.base.proofs.Passes.{xor_more, xor_all, xor_whole}
use Rattle.base.proofs.slices.xor_into.Goals as goal

pub loop-i-preserved : goal.loop-i-preserved
loop-i-preserved c = xor_more c.loop-i.dst c.args.src.now c.loop-i.i (omega arith) (omega arith) ∙ c.loop-i.invariant

pub returns : goal.returns
returns c =
    let e = xor_all c.loop-i.dst c.args.src.now c.loop-i.i (omega arith) c.loop-i.invariant in
    record { front = e; whole = λ h. e ∙ xor_whole c.args.dst.now c.args.src.now h }
