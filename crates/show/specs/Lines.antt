-- Answers and calls, as programs print them.
use Rattle.std.specs.Prelude.{◌≡◌, ℕ, not, cond, is_ok, List, ◌∷◌, ◌++◌, replicate, count_by, codes, Ok, Err, Some, None, Option, Result, ◌==◌}
use Rattle.std.specs.Fmt.{decimal}
use Rattle.base.specs.Bytes.{zeros}
use Rattle.base.specs.Refusals.{shown}
use Rattle.base.specs.declared.refusal.Refusal.{Refusal}
use Rattle.compression.specs.Answers.{answer}
use Rattle.scheme.specs.Meaning.{Meaning}
use Rattle.scheme.specs.Answers.{Fault, said}
use Rattle.show.specs.Shown.{hex}
use Rattle.show.specs.declared.parts.Compressed.{Compressed}

-- `ok` and a length, or the refusal
abbrev pub answered : Result ℕ Refusal → List ℕ
answered (Ok n) = codes "ok " ++ decimal n
answered (Err e) = shown e

-- the same, of a call that answers no length
abbrev pub answered_for : ℕ → Result (Unit {0}) Refusal → List ℕ
answered_for n (Ok done) = answered (Ok n)
answered_for n (Err e) = answered (Err e)

-- how many bytes are no longer what they were before the call
abbrev pub changed : List ℕ → ℕ
changed out = count_by (λ b. not (b == 0xaa)) out

-- how many bytes a compression of zero bytes changes, by a function of this width and value
abbrev pub zeros_changed : ℕ → (List ℕ → List ℕ → List ℕ) → ℕ → ℕ → ℕ → ℕ
zeros_changed width value h m out = changed (cond (is_ok (answer width h m out)) (value (zeros h) (zeros m)) (replicate out 0xaa))

-- a compression in print
abbrev pub compressed : Compressed → List ℕ
compressed c =
    codes "compress " ++ decimal c.h ++ 32 ∷ decimal c.m ++ 32 ∷ decimal c.out
    ++ codes ": " ++ answered_for c.out c.answer
    ++ codes ", changed " ++ decimal c.changed

-- what is said of a page, where `fault` is the first fault in sealing it: its body, or the refusal
abbrev pub Told : Meaning → (n a p text : List ℕ) → (fault : Option Fault) → Type 0
Told m n a p text None = text ≡ hex (m.E n a p)
Told m n a p text (Some fault) = (e : Refusal) × (said e ≡ fault) × (text ≡ shown e)
