-- A page is sealed and opened again.
use Rattle.std.specs.Prelude.{◌≡◌, ℕ, List, ◌++◌, length, drop, Ok, Err, Result, codes}
use Rattle.base.specs.Refusals as refusals
use Rattle.base.specs.declared.refusal.Refusal.{Refusal}
use Rattle.scheme.specs.Meaning.{Meaning}
use Rattle.scheme.specs.Answers as answers
use Rattle.calls.specs.declared.trip.TripError.{TripError}
use Rattle.calls.specs.declared.trip.TripError.TheVariants.{Refused, Differs}

-- page p was sealed into `body`, and stands in front of `back` again
pub record Returned (m : Meaning) (n a p body back : List ℕ) (k : ℕ) (body' back' : List ℕ) : Type 0 where
  pub wrote : answers.Wrote m n a p body k body'
  pub page : back' ≡ p ++ drop (length p) back

-- sealing was refused, and nothing has changed
pub record Stopped (m : Meaning) (n a p body back : List ℕ) (e : Refusal) (body' back' : List ℕ) : Type 0 where
  pub refused : answers.Refused m n a p body e body'
  pub same : back' ≡ back

-- every page that is sealed comes back
abbrev pub Tripped : Meaning → (n a p body back : List ℕ) → Result ℕ TripError → (body' back' : List ℕ) → Type 0
Tripped m n a p body back (Ok k) body' back' = Returned m n a p body back k body' back'
Tripped m n a p body back (Err (Refused e)) body' back' = Stopped m n a p body back e body' back'
Tripped m n a p body back (Err Differs) body' back' = ⊥

-- an error in print
abbrev pub shown : TripError → List ℕ
shown (Refused e) = refusals.shown e
shown Differs = codes "differs"
