use Rattle.std.proofs.Common.{refl}
use Rattle.base.specs.Bytes.{cut}
use Rattle.fips180.specs.Constants.{constants256, constants512}
use Rattle.fips180.specs.Compression.{words, word_at, schedule, round, rounds, compressed}
use Rattle.keyed_sha2_examples.proofs.examples_hold.Goals as goal

pub returns : goal.returns
unfolding cut constants256 constants512 words word_at schedule round rounds compressed
returns c = record { short256 = refl; two256 = refl; short512 = refl; two512 = refl }
