-- Nothing behind a page has changed.
use Rattle.std.proofs.Common.{◌≡◌, ℕ, zero, suc, not, List, ◌++◌, ◌-◌, length, take, drop, replicate, refl, ap, ◌∙◌, arith}
use Rattle.std.specs.Prelude.{◌==◌, count_by}
use Rattle.std.proofs.lemmas.List.{length-drop, take_all}
use Rattle.std.proofs.Math.Seq.{drop-append_seam}

none : (n k : ℕ) → count_by (λ b. not (b == 0xaa)) (drop k (replicate n 0xaa)) ≡ 0
none zero zero = refl
none zero (suc k) = refl
none (suc n) zero = none n zero
none (suc n) (suc k) = none n k

pub behind : (p back : List ℕ) (n : ℕ) → back ≡ p ++ drop (length p) (replicate n 0xaa) → length back ≡ n → count_by (λ b. not (b == 0xaa)) (take (n - length p) (drop (length p) back)) ≡ 0
behind p back n e l =
    let whole : take (n - length p) (drop (length p) back) ≡ drop (length p) back = take_all (n - length p) (drop (length p) back) (omega (arith, length-drop (length p) back)) in
    ap (count_by (λ b. not (b == 0xaa))) (whole ∙ ap (drop (length p)) e ∙ drop-append_seam p (drop (length p) (replicate n 0xaa))) ∙ none n (length p)
