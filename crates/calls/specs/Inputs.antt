-- Bytes to call with.
use Rattle.std.specs.Prelude.{ℕ, zero, suc, ◌+◌, ◌%◌, List, [], ◌∷◌}

-- n bytes: the first is `start`, and each next one is larger by `step`, modulo 256
abbrev pub row : ℕ → ℕ → ℕ → List ℕ
row zero start step = []
row (suc n) start step = start % 256 ∷ row n (start + step) step
