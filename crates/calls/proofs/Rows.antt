-- One byte more in a row.
use Rattle.std.proofs.Common.{◌≡◌, ℕ, zero, suc, ◌+◌, ◌-◌, ◌%◌, ◌<◌, List, [], ◌∷◌, ◌++◌, refl, sym, ap, ap₂, ◌∙◌, arith}
use Rattle.std.proofs.lemmas.List.{append_assoc}
use Rattle.calls.specs.Inputs.{row}

-- only the remainder of the start counts
row_same : (n start step : ℕ) → row n (start % 256) step ≡ row n start step
row_same zero start step = refl
row_same (suc n) start step =
    let e : (start % 256 + step) % 256 ≡ (start + step) % 256 = omega arith in
    let b : start % 256 % 256 ≡ start % 256 = omega arith in
    ap₂ (λ x xs. x ∷ xs) b (sym (row_same n (start % 256 + step) step) ∙ ap (λ k. row n k step) e ∙ row_same n (start + step) step)

row_next : (rest n i next step : ℕ) → rest ≡ n - i → i < n → next < 256 → row rest next step ≡ next ∷ row (n - (i + 1)) ((next + step) % 256) step
row_next zero n i next step e l b = absurd (omega arith)
row_next (suc rest) n i next step e l b =
    let here : next % 256 ≡ next = omega arith in
    let behind : rest ≡ n - (i + 1) = omega arith in
    ap₂ (λ x xs. x ∷ xs) here (sym (row_same rest (next + step) step) ∙ ap (λ k. row k ((next + step) % 256) step) behind)

pub row_more : (made : List ℕ) (n i next step : ℕ) → i < n → next < 256 → (made ++ next ∷ []) ++ row (n - (i + 1)) ((next + step) % 256) step ≡ made ++ row (n - i) next step
row_more made n i next step l b = append_assoc made (next ∷ []) _ ∙ ap (λ t. made ++ t) (sym (row_next (n - i) n i next step refl l b))
