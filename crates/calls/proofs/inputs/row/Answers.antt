use Rattle.std.proofs.Common.{◌-◌, ◌+◌, ◌%◌, ◌++◌, ap, ◌∙◌, arith}
use Rattle.calls.specs.Inputs.{row}
use Rattle.calls.proofs.Rows.{row_more}
use Rattle.calls.proofs.inputs.row.Goals as goal

pub loop-preserved : goal.loop-preserved
loop-preserved c =
    ap (λ made. made ++ row (c.args.n - (c.loop.counter + 1)) ((c.loop.next + c.args.step) % 256) c.args.step) c.in_ok-push.ensures.items
    ∙ row_more c.loop.bytes.items c.args.n c.loop.counter c.loop.next c.args.step (omega arith) (omega arith)
    ∙ c.loop.invariant
