-- Two parts are compared bit by bit.
use Rattle.std.proofs.Common.{◌≡◌, ℕ, ◌+◌, ◌<◌, ◌≤◌, false, eqb, List, [], ◌∷◌, ◌++◌, length, get_or, take, Decides, sym, ap, ◌∙◌, ap₂, arith}
use lib.Bits.{bit_or, bit_xor, or_add_and, and_le_l, and_le_r, xor_assoc, xor_self, xor_zero_r, xor_zero_l}
use Rattle.std.proofs.lemmas.List.{take_more, take_all, same_from_push, length-take}
use Rattle.std.proofs.lemmas.Bool.Decides.{Decides-eqb}

or_none : (a b : ℕ) → bit_or a b ≡ 0 → (a ≡ 0) × (b ≡ 0)
or_none a b e = let h = or_add_and a b in let l = and_le_l a b in let r = and_le_r a b in (omega arith, omega arith)

xor_none : (x y : ℕ) → bit_xor x y ≡ 0 → x ≡ y
xor_none x y e = sym (xor_zero_r x) ∙ ap (bit_xor x) (sym (xor_self y)) ∙ sym (xor_assoc x y y) ∙ ap (λ z. bit_xor z y) e ∙ xor_zero_l y

-- so far a and b agree exactly where no bit of `differing` is set
abbrev pub Told : List ℕ → List ℕ → ℕ → Type 0
Told a b differing = (differing ≡ 0 → a ≡ b) × (a ≡ b → differing ≡ 0)

pub told_more : (a b : List ℕ) (i d : ℕ) → i < length a → length a ≡ length b → Told (take i a) (take i b) d → Told (take (i + 1) a) (take (i + 1) b) (bit_or d (bit_xor (get_or a i 0) (get_or b i 0)))
told_more a b i d h l t =
    let ma = take_more a i 0 h in
    let mb = take_more b i 0 (omega arith) in (
      λ e. let z = or_none d (bit_xor (get_or a i 0) (get_or b i 0)) e in ma ∙ ap₂ (λ s y. s ++ y ∷ []) (t.0 z.0) (xor_none (get_or a i 0) (get_or b i 0) z.1) ∙ sym mb,
      λ e.
          let p = same_from_push (take i a) (take i b) (get_or a i 0) (get_or b i 0) (sym ma ∙ e ∙ mb) in
          let none : d ≡ 0 = t.1 p.0 in
          rw (none, p.1, xor_self (get_or b i 0)),
    )

pub told_all : (a b : List ℕ) (i d : ℕ) → length a ≤ i → length a ≡ length b → Told (take i a) (take i b) d → Decides (eqb d 0) (a ≡ b)
told_all a b i d h l t =
    let q = Decides-eqb d 0 in
    let ta = take_all i a h in
    let tb = take_all i b (omega arith) in
    (λ e. sym ta ∙ t.0 (q.0 e) ∙ tb, λ e. q.1 (t.1 (ta ∙ e ∙ sym tb)))

-- a part that is longer than t does not begin it
pub too_long : (t part : List ℕ) → length t < length part → Decides false (take (length part) t ≡ part)
too_long t part h = (
  λ e. absurd (let z : ◌≡◌ {A = ℕ} 0 1 = cc in omega arith),
  λ e. absurd (omega (arith, ap length e, length-take (length part) t)),
)
