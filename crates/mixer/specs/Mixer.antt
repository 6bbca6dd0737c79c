-- The function Mixer.
use Rattle.std.specs.Prelude.{ℕ, suc, ◌+◌, ◌*◌, ◌%◌, List, [], ◌∷◌, reverse}

-- the byte at place i, from the bytes of H and of M that meet there
abbrev pub mixed_byte : ℕ → ℕ → ℕ → ℕ
mixed_byte i x y = (3 * x + 5 * y + 7 * i + 1) % 256

-- the bytes from place i on: it ends with the shorter part
abbrev pub mixed_from : ℕ → List ℕ → List ℕ → List ℕ
mixed_from i [] ys = []
mixed_from i (x ∷ xs) [] = []
mixed_from i (x ∷ xs) (y ∷ ys) = mixed_byte i x y ∷ mixed_from (suc i) xs ys

-- F(H, M): M is read backwards
unfoldable pub mixed : List ℕ → List ℕ → List ℕ
mixed h m = mixed_from 0 h (reverse m)
