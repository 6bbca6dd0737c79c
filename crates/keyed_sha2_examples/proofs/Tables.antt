-- A test of a whole table, and what it says of each entry.
use Rattle.std.proofs.Common.{◌≡◌, ℕ, zero, suc, ◌+◌, ◌*◌, ◌^◌, ◌<◌, Bool, true, false, cond, ◌&&◌, ltb, leb, List, [], ◌∷◌, length, get_or, le_of_suc-le-suc, not-suc-le-zero, ltb-true, leb-true}
use Rattle.std.proofs.lemmas.Bool.{and_parts}
use Rattle.keyed_sha2_examples.specs.CubeRoots.{Fraction}

-- the whole part of a root below n + 1
abbrev whole : ℕ → ℕ → ℕ
whole zero p = 0
whole (suc n) p = cond (leb (suc n ^ 3) p) (suc n) (whole n p)

abbrev fraction : ℕ → ℕ → ℕ → ℕ → Bool
fraction b n p k = ltb k (2 ^ b) && (leb ((n * 2 ^ b + k) ^ 3) (p * 2 ^ (3 * b)) && ltb (p * 2 ^ (3 * b)) ((n * 2 ^ b + k + 1) ^ 3))

abbrev pub fractions : ℕ → List ℕ → List ℕ → Bool
fractions b ps [] = true
fractions b [] (k ∷ ks) = false
fractions b (p ∷ ps) (k ∷ ks) = fraction b (whole 7 p) p k && fractions b ps ks

pub at : (b : ℕ) (ps ks : List ℕ) → fractions b ps ks ≡ true → (t : ℕ) → t < length ks → Fraction b (get_or ps t 0) (get_or ks t 0)
at b ps [] e t h = absurd (not-suc-le-zero h)
at b [] (k ∷ ks) e t h = cc
at b (p ∷ ps) (k ∷ ks) e zero h =
    let n = whole 7 p in
    let here = and_parts (fraction b n p k) (fractions b ps ks) e in
    let fits = and_parts (ltb k (2 ^ b)) _ here.0 in
    let root = and_parts (leb ((n * 2 ^ b + k) ^ 3) (p * 2 ^ (3 * b))) _ fits.1 in
    record { n = n; fits = ltb-true _ _ fits.0; least = leb-true _ _ root.0; most = ltb-true _ _ root.1 }
at b (p ∷ ps) (k ∷ ks) e (suc t) h = at b ps ks (and_parts (fraction b (whole 7 p) p k) (fractions b ps ks) e).1 t (le_of_suc-le-suc h)
