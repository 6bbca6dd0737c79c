use Rattle.std.proofs.Common.{refl}
use Rattle.fips180.specs.Constants.{constants256, constants512}
use Rattle.keyed_sha2_examples.specs.CubeRoots.{primes}
use Rattle.keyed_sha2_examples.proofs.Tables.{at}
use Rattle.keyed_sha2_examples.proofs.tables_follow_rule.Goals as goal

pub returns : goal.returns
unfolding constants256 constants512 primes
returns c = (at 32 primes constants256 refl, at 64 primes constants512 refl)
