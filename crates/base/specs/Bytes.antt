-- Strings of bytes: exclusive or, numbers, padding, blocks, and doubling.
use Rattle.std.specs.Prelude.{◌≡◌, ℕ, zero, suc, ◌+◌, ◌*◌, ◌/◌, ◌%◌, ◌<◌, min, cond, List, [], ◌∷◌, ◌++◌, length, take, drop, replicate, bit_xor, nat_le, slice_index}
use Rattle.std.specs.List.{AllByRecursion}

-- each element is a byte
abbrev pub Bytes : List ℕ → Type 0
Bytes = AllByRecursion (λ b. b < 256)

-- the exclusive or of two parts: it ends with the shorter
abbrev pub xor : List ℕ → List ℕ → List ℕ
xor [] ys = []
xor (x ∷ xs) [] = []
xor (x ∷ xs) (y ∷ ys) = bit_xor x y ∷ xor xs ys

-- r is a ⊕ b, and has the length of the shorter
pub record Xored (a b r : List ℕ) : Type 0 where
  pub is : r ≡ xor a b
  pub long : length r ≡ min (length a) (length b)

-- n zero bytes
abbrev pub zeros : ℕ → List ℕ
zeros n = replicate n 0

-- a short block filled to w bytes by 80 and zeros; a full block stays as it is
abbrev pub padded : ℕ → List ℕ → List ℕ
padded w b = take w (b ++ 0x80 ∷ zeros w)

-- a part filled to w bytes by zeros
unfoldable pub filled : ℕ → List ℕ → List ℕ
filled w b = take w (b ++ zeros w)

-- ⟨t⟩ in w bytes, the most significant first: what does not fit falls off in front
abbrev pub digits : ℕ → ℕ → List ℕ
digits zero t = []
digits (suc w) t = digits w (t / 256) ++ t % 256 ∷ []

-- acc, and then the bytes behind it, as one number
abbrev pub number_after : ℕ → List ℕ → ℕ
number_after acc [] = acc
number_after acc (x ∷ xs) = number_after (acc * 256 + x) xs

-- a string of bytes as a number, the most significant byte first
abbrev pub number : List ℕ → ℕ
number xs = number_after 0 xs

-- all bits one place to the left: the top bit falls off
abbrev pub shifted : List ℕ → List ℕ
shifted x = digits (length x) (2 * number x)

-- 2·x in the field: where the top bit was 1, the feedback number goes into the last bytes
abbrev pub double : ℕ → List ℕ → List ℕ
double fb x = cond (nat_le 128 (slice_index x 0)) (xor (shifted x) (digits (length x) fb)) (shifted x)

-- x doubled n times
abbrev pub doubled : ℕ → ℕ → List ℕ → List ℕ
doubled fb zero x = x
doubled fb (suc n) x = double fb (doubled fb n x)

-- at most k blocks of w bytes; only the last may be short
abbrev pub cut_by : ℕ → ℕ → List ℕ → List (List ℕ)
cut_by zero w p = []
cut_by (suc k) w [] = []
cut_by (suc k) w (x ∷ xs) = take w (x ∷ xs) ∷ cut_by k w (drop w (x ∷ xs))

-- the blocks of p: an empty p has none
unfoldable pub cut : ℕ → List ℕ → List (List ℕ)
cut w p = cut_by (length p) w p
