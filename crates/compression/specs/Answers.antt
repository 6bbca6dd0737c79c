-- What a compression answers, and the setting of a key.
use Rattle.std.specs.Prelude.{ℕ, cond, ◌&&◌, Ok, Err, Result, ◌==◌, nat_le}
use Rattle.base.specs.Refusals.{refusal}
use Rattle.base.specs.declared.refusal.Cause.TheVariants.{KeyLength, PartLength}
use Rattle.base.specs.declared.refusal.Refusal.{Refusal}

-- a part of n bytes where w are asked
abbrev pub misfit : ℕ → Result (Unit {0}) Refusal
misfit n = Err (refusal PartLength 0 n)

-- the parts are looked at in the order H, M, output; the first that has not w bytes is refused
abbrev pub answer : ℕ → ℕ → ℕ → ℕ → Result (Unit {0}) Refusal
answer w h m out =
    cond (h == w)
    (cond (m == w)
    (cond (out == w) (Ok tt)
    (misfit out))
    (misfit m))
    (misfit h)

-- a key of n bytes for a function of width w: it has 10 to w
abbrev pub key_answer : ℕ → ℕ → Result (Unit {0}) Refusal
key_answer w n = cond (nat_le 10 n && nat_le n w) (Ok tt) (Err (refusal KeyLength 0 n))
