-- A turn of a word, without the library's remainders.
use Rattle.std.proofs.Common.{◌≡◌, ℕ, ◌-◌, ◌*◌, ◌/◌, ◌%◌, ◌^◌, ◌<◌, bit_or, arith}
use Rattle.std.proofs.Math.Nat.{mod-eq_of_lt}

pub turn : (w n x : ℕ) → 0 < n → n < w → bit_or (x / 2 ^ (n % w)) ((x * 2 ^ ((w - n % w) % w)) % 2 ^ w) ≡ bit_or (x / 2 ^ n) ((x * 2 ^ (w - n)) % 2 ^ w)
turn w n x p h =
    let back : w - n < w = omega arith in
    rw (mod-eq_of_lt h, mod-eq_of_lt back)
