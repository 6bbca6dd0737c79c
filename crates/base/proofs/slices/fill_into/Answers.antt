use Rattle.base.proofs.Pads.{fill_is}
use Rattle.base.proofs.slices.fill_into.Goals as goal

pub returns : goal.returns
returns c = fill_is _ _ c.args.part.now _ c.requires c.clear.ensures c.copy_from_slice.ensures.after
