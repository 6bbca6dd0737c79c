-- Laws of the function Mixer.
use Rattle.std.specs.Prelude.{◌≡◌, ℕ, zero, suc, ◌+◌, ◌-◌, ◌<◌, min, List, [], ◌∷◌, reverse, length, slice_index}
use Rattle.std.proofs.Common.{sym, ◌∙◌, ap, arith, not-suc-le-zero, le_of_suc-le-suc}
use Rattle.std.proofs.lemmas.List.{ext_get_or, get_or-reverse, length-reverse}
use Rattle.base.specs.Bytes.{Bytes}
use Rattle.mixer.specs.Mixer.{mixed_byte, mixed_from, mixed}

length_from : (i : ℕ) (xs ys : List ℕ) → length (mixed_from i xs ys) ≡ min (length xs) (length ys)
length_from i [] ys = omega arith
length_from i (x ∷ xs) [] = omega arith
length_from i (x ∷ xs) (y ∷ ys) = let e = length_from (suc i) xs ys in omega arith

pub length-mixed : (h m : List ℕ) → length (mixed h m) ≡ min (length h) (length m)
unfolding mixed
length-mixed h m = length_from 0 h (reverse m) ∙ ap (min (length h)) (length-reverse m)

Bytes-from : (i : ℕ) (xs ys : List ℕ) → Bytes (mixed_from i xs ys)
Bytes-from i [] ys = tt
Bytes-from i (x ∷ xs) [] = tt
Bytes-from i (x ∷ xs) (y ∷ ys) = (omega arith, Bytes-from (suc i) xs ys)

pub Bytes-mixed : (h m : List ℕ) → Bytes (mixed h m)
unfolding mixed
Bytes-mixed h m = Bytes-from 0 h (reverse m)

-- the byte at k, which is at place j of the whole
get_or_from : (i : ℕ) (xs ys : List ℕ) (k j : ℕ) → i + k ≡ j → k < length xs → k < length ys → slice_index (mixed_from i xs ys) k ≡ mixed_byte j (slice_index xs k) (slice_index ys k)
get_or_from i [] ys k j e p q = absurd (not-suc-le-zero p)
get_or_from i (x ∷ xs) [] k j e p q = absurd (not-suc-le-zero q)
get_or_from i (x ∷ xs) (y ∷ ys) zero j e p q = ap (λ n. mixed_byte n x y) (omega arith)
get_or_from i (x ∷ xs) (y ∷ ys) (suc k) j e p q = get_or_from (suc i) xs ys k j (omega arith) (le_of_suc-le-suc p) (le_of_suc-le-suc q)

-- a list whose bytes are all right is the value
pub mixed_all : (h m out : List ℕ) → length h ≡ 48 → length m ≡ 48 → length out ≡ 48 → ((k : ℕ) → k < 48 → slice_index out k ≡ mixed_byte k (slice_index h k) (slice_index m (47 - k))) → out ≡ mixed h m
unfolding mixed
mixed_all h m out eh em eo e =
    ext_get_or 0 out (mixed_from 0 h (reverse m)) (omega (arith, length_from 0 h (reverse m), length-reverse m))
    (λ k l. e k (omega arith)
    ∙ ap (mixed_byte k (slice_index h k)) (ap (λ j. slice_index m j) (omega arith) ∙ sym (get_or-reverse m k 0 (omega arith)))
    ∙ sym (get_or_from 0 h (reverse m) k k (omega arith) (omega arith) (omega (arith, length-reverse m))))
