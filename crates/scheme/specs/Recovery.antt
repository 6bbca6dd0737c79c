-- What a mode recovers from a body before its tag is compared.
use Rattle.std.specs.Prelude.{◌≡◌, ℕ, List, take}
use Rattle.scheme.specs.Meaning.{Meaning, tag_of}

-- `page` gives the body if the body's tag begins `block`; and if any page gives the body, it does
pub record Recovered (m : Meaning) (n a body page block : List ℕ) : Type 0 where
  pub tells : take m.limits.tag block ≡ tag_of m body → m.E n a page ≡ body
  pub only : (p : List ℕ) → m.E n a p ≡ body → take m.limits.tag block ≡ tag_of m body
