-- Bytes as programs print them, in ASCII.
use Rattle.std.specs.Prelude.{ℕ, ◌+◌, ◌-◌, ◌/◌, ◌%◌, cond, ◌&&◌, List, [], ◌∷◌, nat_le, nat_lt}
use Rattle.std.specs.List.{flat_map}

-- a hexadecimal digit, 0 to 9 or a to f
abbrev pub digit : ℕ → ℕ
digit n = cond (nat_lt n 10) (48 + n) (97 + (n - 10))

abbrev pub pair : ℕ → List ℕ
pair b = digit (b / 16) ∷ digit (b % 16) ∷ []

abbrev pub hex : List ℕ → List ℕ
hex bytes = flat_map pair bytes

-- the 64 codes of North American ASCII braille stand for themselves, 20 to 5F; any other byte is `~`
abbrev pub cell : ℕ → ℕ
cell b = cond (nat_le 0x20 b && nat_le b 0x5f) b 126
