-- An address in front of the associated data hands on.
use Rattle.std.specs.Prelude.{ℕ, ◌≤◌, List, ◌++◌, length}
use Rattle.std.proofs.Common.{arith, length-append, length-take}
use Rattle.scheme.specs.Meaning.{Meaning, Lawful}
use Rattle.address.specs.Address.{addressed, cut}
use Rattle.address.specs.Handing.{lawful}

module _ (address : List ℕ) (m : Meaning) where
  -- what the scheme below is given in the place of a
  abbrev pub behind : List ℕ → List ℕ
  behind a = cut m address ++ a

  -- this layer's longest associated data
  abbrev pub longest : ℕ
  longest = (addressed address m).limits.ad

  pub within : (a : List ℕ) → length a ≤ longest → length (behind a) ≤ m.limits.ad
  within a h = let c : length (cut m address) ≤ m.limits.ad = simp length-take (omega arith) in simp length-append (omega arith)

  pub addressed_lawful : Lawful m → Lawful (addressed address m)
  addressed_lawful law = let h = law.ad_high in lawful longest behind m within (omega arith) law
