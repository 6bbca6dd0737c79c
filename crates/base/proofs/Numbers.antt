-- Numbers as bytes, digit by digit.
use Rattle.std.proofs.Common.{◌≡◌, ℕ, zero, suc, ◌+◌, ◌-◌, ◌*◌, ◌/◌, ◌%◌, ◌<◌, ◌≤◌, List, [], ◌∷◌, ◌++◌, length, get_or, take, drop, set, sym, refl, ap, ◌∙◌, ap₂, add-one, arith}
use Rattle.std.proofs.lemmas.List.{take_more, take_more_set, take_all, drop-set, drop-set-lt, drop_more, get_or-drop, get_or_past, length-append, append_assoc}
use Rattle.base.specs.Bytes.{digits, number, number_after, shifted}

pub length-digits : (w t : ℕ) → length (digits w t) ≡ w
length-digits zero t = refl
length-digits (suc w) t = length-append (digits w (t / 256)) (t % 256 ∷ []) ∙ omega (arith, length-digits w (t / 256))

number_push : (acc y : ℕ) (xs : List ℕ) → number_after acc (xs ++ y ∷ []) ≡ number_after acc xs * 256 + y
number_push acc y [] = refl
number_push acc y (x ∷ xs) = number_push (acc * 256 + x) y xs

-- one byte more
pub number_more : (xs : List ℕ) (i : ℕ) → i < length xs → number (take (i + 1) xs) ≡ number (take i xs) * 256 + get_or xs i 0
number_more xs i h = ap number (take_more xs i 0 h) ∙ number_push 0 (get_or xs i 0) (take i xs)

-- what stands at i or behind it
same_at : (x x0 : List ℕ) (i : ℕ) → drop i x ≡ drop i x0 → get_or x i 0 ≡ get_or x0 i 0
same_at x x0 i e = ap (λ k. get_or x k 0) (let z : i ≡ i + 0 = omega arith in z) ∙ sym (get_or-drop i x 0 0) ∙ ap (λ l. get_or l 0 0) e ∙ get_or-drop i x0 0 0 ∙ ap (λ k. get_or x0 k 0) (let z : i + 0 ≡ i = omega arith in z)

pub same_next : (x x0 : List ℕ) (i : ℕ) → drop i x ≡ drop i x0 → get_or x (i + 1) 0 ≡ get_or x0 (i + 1) 0
same_next x x0 i e = sym (get_or-drop i x 1 0) ∙ ap (λ l. get_or l 1 0) e ∙ get_or-drop i x0 1 0

-- both lists go on alike behind i
tails : (x x0 : List ℕ) (i : ℕ) → i < length x → length x ≡ length x0 → drop i x ≡ drop i x0 → drop (i + 1) x ≡ drop (i + 1) x0
tails x x0 i h l d = ap (drop 1) (sym (drop_more x i 0 h)) ∙ ap (drop 1) d ∙ ap (drop 1) (drop_more x0 i 0 (omega arith))

-- one byte more of a shift: t is the top bit of the next byte
pub shift_more : (x x0 : List ℕ) (i t : ℕ) → i < length x → length x ≡ length x0 → take i x ≡ digits i (2 * number (take i x0) + get_or x0 i 0 / 128) → drop i x ≡ drop i x0 → t ≡ get_or x0 (i + 1) 0 / 128 → t ≤ 1
    → (take (i + 1) (set x i (get_or x i 0 % 128 * 2 + t)) ≡ digits (i + 1) (2 * number (take (i + 1) x0) + get_or x0 (i + 1) 0 / 128)) × (drop (i + 1) (set x i (get_or x i 0 % 128 * 2 + t)) ≡ drop (i + 1) x0)
shift_more x x0 i t h l e d et small =
    let y = get_or x0 i 0 in
    let n = number (take i x0) in
    let here : get_or x i 0 ≡ y = same_at x x0 i d in
    let more : number (take (i + 1) x0) ≡ n * 256 + y = number_more x0 i (omega arith) in
    let high : (2 * (n * 256 + y) + t) / 256 ≡ 2 * n + y / 128 = omega arith in
    let low : (2 * (n * 256 + y) + t) % 256 ≡ y % 128 * 2 + t = omega arith in
    let k : i < i + 1 = omega arith in (
      take_more_set x i (get_or x i 0 % 128 * 2 + t) h ∙ rw (here, e, ← et, more, add-one i, high, low),
      drop-set-lt (i + 1) x i _ k ∙ tails x x0 i h l d,
    )

pub shift_all : (x x0 : List ℕ) (i : ℕ) → length x0 ≤ i → i ≤ length x0 → length x ≡ length x0 → take i x ≡ digits i (2 * number (take i x0) + get_or x0 i 0 / 128) → x ≡ shifted x0
shift_all x x0 i h k l e =
    let z : i ≡ length x0 = omega arith in
    let p = get_or_past x0 (length x0) 0 (omega arith) in
    let none : 2 * number x0 + 0 / 128 ≡ 2 * number x0 = omega arith in
    let e' : take (length x0) x ≡ digits (length x0) (2 * number (take (length x0) x0) + get_or x0 (length x0) 0 / 128) = rw z at e in
    sym (take_all (length x0) x (omega arith)) ∙ e' ∙ rw (take_all (length x0) x0 (omega arith), p, none)

-- the next digit from the right goes before those that are written
pub digits_less : (out : List ℕ) (i rest : ℕ) → 0 < i → i ≤ length out → digits (i - 1) (rest / 256) ++ drop (i - 1) (set out (i - 1) (rest % 256)) ≡ digits i rest ++ drop i out
digits_less out i rest p h =
    let k = i - 1 in
    let ek : i ≡ k + 1 = omega arith in
    let s : i ≡ suc k = ek ∙ add-one k in
    ap (λ z. digits k (rest / 256) ++ z) (drop-set out k (rest % 256) (omega arith))
    ∙ sym (append_assoc (digits k (rest / 256)) (rest % 256 ∷ []) (drop (k + 1) out))
    ∙ ap₂ (λ m n. digits m rest ++ drop n out) (sym s) (sym ek)
