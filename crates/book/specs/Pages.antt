-- The pages of a small book.
use Rattle.std.specs.Prelude.{◌≡◌, ℕ, List, [], ◌∷◌, ◌++◌, Some, None, Option}
use Rattle.std.specs.Global.{Vec}
use Rattle.base.specs.Bytes.{zeros}
use Rattle.scheme.specs.Meaning.{Meaning}
use Rattle.scheme.specs.Answers.{Fault}

-- the nonce of a page: the book's job number 5, and the page's number
abbrev pub page_nonce : ℕ → List ℕ
page_nonce page = zeros 7 ++ 5 ∷ zeros 3 ++ page ∷ []

-- the body of a page is handed out if no fault stands against sealing it
abbrev pub Handed : Meaning → (n a p : List ℕ) → Option (Vec ℕ) → (fault : Option Fault) → Type 0
Handed m n a p (Some body) None = body.items ≡ m.E n a p
Handed m n a p None (Some fault) = Unit {0}
Handed m n a p (Some body) (Some fault) = ⊥
Handed m n a p None None = ⊥
