-- The laws of `cut`.
use Rattle.std.proofs.Common.{◌≡◌, ℕ, zero, suc, ◌<◌, ◌≤◌, List, [], ◌∷◌, ◌++◌, length, take, drop, refl, ap, ◌∙◌, not-suc-le-zero, arith}
use Rattle.std.proofs.lemmas.List.{length-drop, length-append, take_at, drop_at, take_all, drop_all}
use Rattle.base.specs.Bytes.{cut_by, cut}

enough : (w : ℕ) → 0 < w → (k m : ℕ) (p : List ℕ) → length p ≤ k → length p ≤ m → cut_by k w p ≡ cut_by m w p
enough w z zero zero p h l = refl
enough w z zero (suc m) [] h l = refl
enough w z zero (suc m) (x ∷ xs) h l = absurd (not-suc-le-zero h)
enough w z (suc k) zero [] h l = refl
enough w z (suc k) zero (x ∷ xs) h l = absurd (not-suc-le-zero l)
enough w z (suc k) (suc m) [] h l = refl
enough w z (suc k) (suc m) (x ∷ xs) h l =
    ap (λ t. take w (x ∷ xs) ∷ t) (enough w z k m (drop w (x ∷ xs)) (simp length-drop (omega arith)) (simp length-drop (omega arith)))

pub cut_more : (w : ℕ) → 0 < w → (p : List ℕ) → 0 < length p → cut w p ≡ take w p ∷ cut w (drop w p)
unfolding cut
cut_more w z [] h = absurd (not-suc-le-zero h)
cut_more w z (x ∷ xs) h =
    ap (λ t. take w (x ∷ xs) ∷ t) (enough w z (length xs) (length (drop w (x ∷ xs))) (drop w (x ∷ xs)) (simp length-drop (omega arith)) (simp length-drop (omega arith)))

pub cut-nil : (w : ℕ) → cut w [] ≡ []
unfolding cut
cut-nil w = refl

pub cut-append : (w : ℕ) → 0 < w → (b r : List ℕ) → length b ≡ w → cut w (b ++ r) ≡ b ∷ cut w r
cut-append w z b r e =
    let l : 0 < length (b ++ r) = simp length-append (omega arith) in
    cut_more w z (b ++ r) l ∙ rw (take_at b r w e, drop_at b r w e)

pub cut_last : (w : ℕ) → 0 < w → (p : List ℕ) → 0 < length p → length p ≤ w → cut w p ≡ p ∷ []
cut_last w z p h l = cut_more w z p h ∙ rw (take_all w p l, drop_all w p l, cut-nil w)
