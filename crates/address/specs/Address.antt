-- A scheme with an address in front of the associated data.
use Rattle.std.specs.Prelude.{◌≡◌, ℕ, ◌-◌, ◌<◌, ◌≤◌, Bool, cond, List, ◌++◌, length, take, ◌==◌}
use Rattle.base.specs.Refusals.{number_of, refusal}
use Rattle.base.specs.declared.refusal.Cause.{Cause}
use Rattle.base.specs.declared.refusal.Cause.TheVariants.{AdTooLong}
use Rattle.base.specs.declared.refusal.Refusal.{Refusal}
use Rattle.scheme.specs.Meaning.{Meaning}
use Rattle.address.specs.declared.address.Addressed.{Addressed}

-- the address as the scheme below is given it: its leftmost bytes, as many as that scheme takes
abbrev pub cut : Meaning → List ℕ → List ℕ
cut m address = take m.limits.ad address

-- E'(n, a, p) = E(n, address then a, p): the address takes its length from the associated data
abbrev pub addressed : List ℕ → Meaning → Meaning
addressed address m = record {
  limits = record { tag = m.limits.tag; ad = m.limits.ad - length (cut m address); page = m.limits.page };
  end = m.end;
  E = λ n a p. m.E n (cut m address ++ a) p;
}

-- which layer a refusal names: too much associated data is found here, all else below
abbrev pub address_layers : (Cause → ℕ → Bool) → Cause → ℕ → Bool
address_layers below c layer = cond (number_of c == number_of AdTooLong) (layer == 2) (below c layer)

-- the meaning of s, and the layers that it names, by those of the scheme it holds
abbrev pub means : {S : Type 0} → (S → Meaning) → Addressed S → Meaning
means meaning s = addressed s.address (meaning s.below)

abbrev pub names : {S : Type 0} → (S → Cause → ℕ → Bool) → Addressed S → Cause → ℕ → Bool
names layers s = address_layers (layers s.below)

-- `given` is a joined to the address, which the scheme below takes
pub record Joined (m : Meaning) (address a given : List ℕ) : Type 0 where
  pub fits : length a ≤ (addressed address m).limits.ad
  pub is : given ≡ cut m address ++ a

-- e refuses associated data a that is longer than this layer takes
pub record TooLong (m : Meaning) (address a : List ℕ) (e : Refusal) : Type 0 where
  pub over : (addressed address m).limits.ad < length a
  pub says : e ≡ refusal AdTooLong 2 (length a)
