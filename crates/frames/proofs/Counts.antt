-- Trailing zeros of small numbers.
use Rattle.std.proofs.Common.{◌≡◌, ℕ, zero, suc, ◌*◌, ◌/◌, ◌%◌, ◌^◌, ◌<◌, refl, pow-suc, arith}
use lib.Count.{count_trailing_zeros, under}

under_below : (r t m : ℕ) → (r ≡ 0 → t < m) → under r t < suc m
under_below zero t m f = let h = f refl in omega arith
under_below (suc r) t m f = omega arith

pub ntz_below : (k m n : ℕ) → 0 < n → n < 2 ^ m → count_trailing_zeros k n < m
unfolding count_trailing_zeros
ntz_below zero zero n z h = omega arith
ntz_below zero (suc m) n z h = omega arith
ntz_below (suc k) zero n z h = omega arith
ntz_below (suc k) (suc m) n z h =
    let p : n < 2 ^ m * 2 = rw pow-suc at h in
    under_below (n % 2) (count_trailing_zeros k (n / 2)) m (λ e. ntz_below k m (n / 2) (omega arith) (omega arith))
