-- What the comparison of the tags says of a recovered page.
use Rattle.std.proofs.Common.{◌≡◌, ℕ, Bool, true, cond, List, length, take, Decides, sym, ap, ◌∙◌, ap₂}
use Rattle.scheme.specs.declared.limits.End.{End}
use Rattle.scheme.specs.Meaning.{Meaning, tag_of, tag_part}
use Rattle.scheme.specs.Recovery.{Recovered}

-- `found` is the body's tag, and it was compared with that of the page, which begins `tag`
module _ (m : Meaning) (n a body page tag found : List ℕ) (same : Bool) (e : End) (t : ℕ)
    (r : Recovered m n a body page tag) (f : found ≡ tag_part e t body) (l : length found ≡ t) (ee : e ≡ m.end) (et : t ≡ m.limits.tag)
    (d : Decides same (take t tag ≡ found)) where
  found_is : found ≡ tag_of m body
  found_is = f ∙ ap₂ (λ x y. tag_part x y body) ee et

  pub agreed : same ≡ true → (final zeroed : List ℕ) → final ≡ cond same page zeroed → m.E n a final ≡ body
  agreed true-is final zeroed g = ap (m.E n a) (g ∙ ap (λ b. cond b page zeroed) true-is) ∙ r.tells (ap (λ i. take i tag) (sym et) ∙ d.0 true-is ∙ found_is)
