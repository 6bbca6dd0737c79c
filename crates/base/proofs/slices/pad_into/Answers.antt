use Rattle.std.proofs.Common.{arith}
use Rattle.base.proofs.Pads.{pad_filled, pad_full}
use Rattle.base.proofs.slices.pad_into.Goals as goal

pub returns-then-n-out : goal.returns-then-n-out
returns-then-n-out c = pad_filled _ _ c.args.part.now (omega arith) c.fill_into.ensures

pub returns-else-n-out : goal.returns-else-n-out
returns-else-n-out c = pad_full _ _ c.args.part.now (omega arith) c.fill_into.ensures
