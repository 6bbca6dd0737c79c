-- What a feed makes the next chaining value of.
use Rattle.std.specs.Prelude.{ℕ, suc, List}
use Rattle.base.specs.Bytes.{xor}
use Rattle.compression.specs.Parts.{bytes_of}
use Rattle.frames.specs.declared.rule.Feed.{Feed}
use Rattle.frames.specs.declared.rule.Feed.TheVariants.{Page, Fixed}

-- m is the offset, h the last chaining value, p the page's block
abbrev pub follow : {X : Type 0} {g : _} → (List ℕ → List ℕ → List ℕ) → Feed X g → List ℕ → List ℕ → List ℕ → List ℕ
follow F Page m h p = F (xor h m) p
follow F (Fixed a b) m h p = F (xor (bytes_of a) m) (bytes_of b)

-- H(i+1) under D(i+1), from H(i) and P(i)
abbrev pub next_by : {X : Type 0} {g : _} → (List ℕ → List ℕ → List ℕ) → Feed X g → (ℕ → List ℕ) → ℕ → List ℕ → List ℕ → List ℕ
next_by F feed D i h p = follow F feed (D (suc i)) h p
