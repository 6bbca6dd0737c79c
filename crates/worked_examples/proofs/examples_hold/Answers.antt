use Rattle.std.proofs.Common.{refl}
use lib.Count.{count_trailing_zeros}
use Rattle.base.specs.Bytes.{cut}
use Rattle.omd.specs.Omd.{ad_tag, cipher, page_tag, sealed}
use Rattle.worked_examples.proofs.examples_hold.Goals as goal

pub returns : goal.returns
unfolding count_trailing_zeros cut ad_tag cipher page_tag sealed
returns c = refl
