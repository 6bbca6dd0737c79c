-- FIPS 180-4, section 4.2: the rule of the round constants.
use Rattle.std.specs.Prelude.{ℕ, zero, suc, ◌+◌, ◌-◌, ◌*◌, ◌%◌, ◌^◌, ◌<◌, ◌≤◌, Bool, true, cond, not, ◌&&◌, List, [], ◌∷◌, ◌++◌, ◌==◌, nat_le, slice_index}
use Rattle.fips180.specs.Words.{Sizes, bits}

-- no number from 2 to d divides p
abbrev pub undivided : ℕ → ℕ → Bool
undivided p zero = true
undivided p (suc zero) = true
undivided p (suc (suc d)) = not (p % suc (suc d) == 0) && undivided p (suc d)

abbrev pub prime : ℕ → Bool
prime p = nat_le 2 p && undivided p (p - 1)

-- the primes below n, in order
abbrev pub primes_below : ℕ → List ℕ
primes_below zero = []
primes_below (suc n) = primes_below n ++ cond (prime n) (n ∷ []) []

-- The 80 primes below 410.
unfoldable pub primes : List ℕ
primes = primes_below 410

-- k is the first b bits of the fractional part of the cube root of p: with some whole number n,
-- n·2^b + k is the whole part of 2^b times that root
pub record Fraction (b p k : ℕ) : Type 0 where
  pub n : ℕ
  pub fits : k < 2 ^ b
  pub least : (n * 2 ^ b + k) ^ 3 ≤ p * 2 ^ (3 * b)
  pub most : p * 2 ^ (3 * b) < (n * 2 ^ b + k + 1) ^ 3

-- the constant of round t comes from the t-th prime, both counted from 0
abbrev pub FollowsRule : Sizes → Type 0
FollowsRule z = (t : ℕ) → t < z.rounds → Fraction (bits z) (slice_index primes t) (slice_index z.constants t)
