use Rattle.std.proofs.Common.{refl}
use lib.Count.{count_trailing_zeros}
use Rattle.base.specs.Bytes.{cut, filled}
use Rattle.two_pass.specs.TwoPass.{times, ad_sum, tag_block, cipher, body}
use Rattle.two_pass_examples.proofs.examples_hold.Goals as goal

pub returns : goal.returns
unfolding count_trailing_zeros cut filled times ad_sum tag_block cipher body
returns c = refl
