-- The length of what is doubled.
use Rattle.std.proofs.Common.{◌≡◌, ℕ, zero, suc, ◌*◌, true, false, cond, leb, List, length, get_or, refl, ◌∙◌, arith}
use Rattle.base.specs.Bytes.{xor, digits, shifted, number, double, doubled}
use Rattle.base.proofs.Numbers.{length-digits}
use Rattle.base.proofs.Xors.{length-xor}

pub length-double : (fb : ℕ) (x : List ℕ) → length (double fb x) ≡ length x
length-double fb x =
    let s = length-digits (length x) (2 * number x) in
    let d = length-digits (length x) fb in
    elim (leb 128 (get_or x 0 0)) as (λ b. length (cond b (xor (shifted x) (digits (length x) fb)) (shifted x)) ≡ length x) [ true ↦ length-xor (shifted x) (digits (length x) fb) ∙ omega arith | false ↦ s ]

pub length-doubled : (fb n : ℕ) (x : List ℕ) → length (doubled fb n x) ≡ length x
length-doubled fb zero x = refl
length-doubled fb (suc n) x = length-double fb (doubled fb n x) ∙ length-doubled fb n x
