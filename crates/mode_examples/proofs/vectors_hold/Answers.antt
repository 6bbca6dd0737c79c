use mathlib.Core.Path.{refl}
use lib.Count.{count_trailing_zeros}
use Rattle.base.specs.Bytes.{cut, filled}
use Rattle.fips180.specs.Constants.{constants256, constants512}
use Rattle.fips180.specs.Compression.{words, word_at, schedule, round, rounds, compressed, half_fixed}
use Rattle.omd.specs.Omd as omd
use Rattle.two_pass.specs.TwoPass as two_pass
use Rattle.mode_examples.proofs.vectors_hold.Goals as goal

pub returns : goal.returns
unfolding count_trailing_zeros cut filled constants256 constants512 words word_at schedule round rounds compressed half_fixed omd.ad_tag omd.cipher omd.page_tag omd.sealed two_pass.times two_pass.ad_sum two_pass.tag_block two_pass.cipher two_pass.body
returns c = record {
  omd_short256 = refl;
  serial_short256 = refl;
  counter_short256 = refl;
  omd_full256 = refl;
  serial_full256 = refl;
  counter_full256 = refl;
  omd_short512 = refl;
  serial_short512 = refl;
  counter_short512 = refl;
  omd_full512 = refl;
  serial_full512 = refl;
  counter_full512 = refl;
}
