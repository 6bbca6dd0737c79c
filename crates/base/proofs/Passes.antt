-- One turn of a pass over a slice from its front.
use Rattle.std.proofs.Common.{◌≡◌, ℕ, ◌+◌, ◌<◌, ◌≤◌, min, List, [], ◌∷◌, ◌++◌, length, get_or, take, drop, set, sym, refl, ap, ◌∙◌, inl, inr, arith}
use lib.Bits.{bit_xor}
use Rattle.std.proofs.lemmas.List.{take_more_set, drop_more, drop-set-lt, append_assoc, drop_all, append-nil, take-append-drop}
use Rattle.base.specs.Bytes.{xor}
use Rattle.std.proofs.lemmas.Bool.Decides.{leb_tells}

-- y is written at i, and what is left of the list stays
pub pass_more : (d : List ℕ) (i : ℕ) (y : ℕ) (rest : List ℕ → List ℕ) → i < length d → take (i + 1) (set d i y) ++ rest (drop (i + 1) (set d i y)) ≡ take i d ++ (y ∷ rest (drop (i + 1) d))
pass_more d i y rest h =
    let k : i < i + 1 = omega arith in
    rw (take_more_set d i y h, drop-set-lt (i + 1) d i y, append_assoc)

-- ⊕ over as far as both reach, and then the rest of the first
abbrev pub xor_front : List ℕ → List ℕ → List ℕ
xor_front d s = xor d s ++ drop (length s) d

pub xor_more : (d s : List ℕ) (i : ℕ) → i < length d → i < length s → take (i + 1) (set d i (bit_xor (get_or d i 0) (get_or s i 0))) ++ xor_front (drop (i + 1) (set d i (bit_xor (get_or d i 0) (get_or s i 0)))) (drop (i + 1) s) ≡ take i d ++ xor_front (drop i d) (drop i s)
xor_more d s i h k = rw (pass_more d i _ (λ r. xor_front r (drop (i + 1) s)) h, drop_more d i 0 h, drop_more s i 0 k)

xor-nil_left : (s : List ℕ) → xor_front [] s ≡ []
xor-nil_left [] = refl
xor-nil_left (x ∷ xs) = refl

xor-nil_right : (d : List ℕ) → xor_front d [] ≡ d
xor-nil_right [] = refl
xor-nil_right (x ∷ xs) = refl

pub xor_all : (d s : List ℕ) (i : ℕ) {whole : List ℕ} → min (length d) (length s) ≤ i → take i d ++ xor_front (drop i d) (drop i s) ≡ whole → d ≡ whole
xor_all d s i h e =
    elim (leb_tells (length d) i) [
      | inl t ↦ sym (take-append-drop i d) ∙ ap (λ z. take i d ++ z) (let l = t.1 in rw (drop_all i d l) (sym (xor-nil_left (drop i s)))) ∙ e
      | inr t ↦
          let l = t.1 in
          let k : length s ≤ i = omega arith in
          sym (take-append-drop i d) ∙ ap (λ z. take i d ++ z) (rw (drop_all i s k) (sym (xor-nil_right (drop i d)))) ∙ e
    ]

-- ⊕ into a part that is not longer leaves nothing behind it
pub xor_whole : (d s : List ℕ) → length d ≤ length s → xor_front d s ≡ xor d s
xor_whole d s h = ap (λ t. xor d s ++ t) (drop_all (length s) d h) ∙ append-nil (xor d s)
