-- What is said of a page is so.
use Rattle.std.proofs.Common.{◌≡◌, ℕ, List, length, Err, refl, sym, ap, subst, ◌∙◌}
use Rattle.scheme.specs.Meaning.{Meaning}
use Rattle.scheme.specs.Answers.{Wrote, seal_fault}
use Rattle.calls.specs.declared.trip.TripError.{TripError}
use Rattle.calls.specs.declared.trip.TripError.TheVariants.{Refused, Differs}
use Rattle.calls.specs.Trips.{Tripped, shown}
use Rattle.show.specs.Shown.{hex}
use Rattle.show.specs.Lines.{Told}

module _ (m : Meaning) (n a p before text : List ℕ) where
  pub told_body : (k : ℕ) (body shown : List ℕ) → Wrote m n a p before k body → shown ≡ m.E n a p → text ≡ hex shown → Told m n a p text (seal_fault m.limits n a p (length before))
  told_body k body shown w e t = subst (λ f. Told m n a p text f) (sym w.may) (t ∙ ap hex e)

  pub told_error : (e : TripError) (back body' back' : List ℕ) → Tripped m n a p before back (Err e) body' back' → text ≡ shown e → Told m n a p text (seal_fault m.limits n a p (length before))
  told_error (Refused r) back body' back' s t = subst (λ f. Told m n a p text f) (sym s.refused.says) (r, refl, t)
  told_error Differs back body' back' s t = absurd s
