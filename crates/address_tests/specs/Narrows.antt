-- Less associated data hands on.
use Rattle.std.specs.Prelude.{ℕ, ◌≤◌, List, length}
use Rattle.std.proofs.Common.{arith}
use Rattle.scheme.specs.Meaning.{Meaning, Lawful}
use Rattle.address.specs.Handing.{lawful}
use Rattle.address_tests.specs.Narrow.{narrowed}

abbrev pub same : List ℕ → List ℕ
same a = a

module _ (m : Meaning) where
  abbrev pub longest : ℕ
  longest = (narrowed m).limits.ad

  pub within : (a : List ℕ) → length a ≤ longest → length (same a) ≤ m.limits.ad
  within a h = omega arith

  pub narrow_lawful : Lawful m → Lawful (narrowed m)
  narrow_lawful law = lawful longest same m within (omega arith) law
