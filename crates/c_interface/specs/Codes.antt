-- Answers as numbers.
use Rattle.std.specs.Prelude.{ℕ, cond, is_ok, Ok, Err, Result}
use Rattle.base.specs.Refusals.{number_of}
use Rattle.base.specs.declared.refusal.Refusal.{Refusal}
use Rattle.compression.specs.Answers.{answer, key_answer}

-- the key is looked at first, then H, M and the output
abbrev pub keyed_answer : ℕ → ℕ → ℕ → ℕ → ℕ → Result (Unit {0}) Refusal
keyed_answer w key h m out = cond (is_ok (key_answer w key)) (answer w h m out) (key_answer w key)

-- 0 for a yes, and the cause's number for a no
abbrev pub code : Result (Unit {0}) Refusal → ℕ
code (Ok _) = 0
code (Err e) = number_of e.cause
