-- FIPS 180-4, sections 2.2.2, 3.2 and 4.1: the operations on words, for words of 32 and of 64 bits.
use Rattle.std.specs.Prelude.{ℕ, ◌+◌, ◌-◌, ◌*◌, ◌/◌, ◌%◌, ◌^◌, ◌<◌, List, bit_and, bit_or, bit_xor}
use Rattle.fips180.specs.Constants.{constants256, constants512}

-- What differs between SHA-256 and SHA-512: the bytes of a word, the number of rounds and their constants,
-- and the distances of the functions Σ0, Σ1 (three turns) and σ0, σ1 (two turns and a shift).
pub record Sizes : Type 0 where
  pub bytes : ℕ
  pub rounds : ℕ
  pub constants : List ℕ
  pub big0 : ℕ × ℕ × ℕ
  pub big1 : ℕ × ℕ × ℕ
  pub small0 : ℕ × ℕ × ℕ
  pub small1 : ℕ × ℕ × ℕ

abbrev pub sha256 : Sizes
sha256 = record {
  bytes = 4;
  rounds = 64;
  constants = constants256;
  big0 = (2, 13, 22);
  big1 = (6, 11, 25);
  small0 = (7, 18, 3);
  small1 = (17, 19, 10);
}

abbrev pub sha512 : Sizes
sha512 = record {
  bytes = 8;
  rounds = 80;
  constants = constants512;
  big0 = (28, 34, 39);
  big1 = (14, 18, 41);
  small0 = (1, 8, 7);
  small1 = (19, 61, 6);
}

-- the bits of a word
abbrev pub bits : Sizes → ℕ
bits z = 8 * z.bytes

-- a distance by which a word can be turned
abbrev pub IsTurn : Sizes → ℕ → Type 0
IsTurn z n = (0 < n) × (n < bits z)

-- x + y modulo 2 ^ bits
abbrev pub plus : Sizes → ℕ → ℕ → ℕ
plus z x y = (x + y) % 2 ^ bits z

-- ¬x
abbrev pub complement : Sizes → ℕ → ℕ
complement z x = 2 ^ bits z - 1 - x

-- SHR^n(x)
abbrev pub shr : ℕ → ℕ → ℕ
shr n x = x / 2 ^ n

-- ROTR^n(x)
abbrev pub rotr : Sizes → ℕ → ℕ → ℕ
rotr z n x = bit_or (x / 2 ^ n) ((x * 2 ^ (bits z - n)) % 2 ^ bits z)

-- Ch(x, y, v)
abbrev pub ch : Sizes → ℕ → ℕ → ℕ → ℕ
ch z x y v = bit_xor (bit_and x y) (bit_and (complement z x) v)

-- Maj(x, y, v)
abbrev pub maj : ℕ → ℕ → ℕ → ℕ
maj x y v = bit_xor (bit_xor (bit_and x y) (bit_and x v)) (bit_and y v)

-- Σ(x): three turns
abbrev pub big_sigma : Sizes → ℕ × ℕ × ℕ → ℕ → ℕ
big_sigma z n x = bit_xor (bit_xor (rotr z n.0 x) (rotr z n.1 x)) (rotr z n.2 x)

-- σ(x): two turns and a shift
abbrev pub small_sigma : Sizes → ℕ × ℕ × ℕ → ℕ → ℕ
small_sigma z n x = bit_xor (bit_xor (rotr z n.0 x) (rotr z n.1 x)) (shr n.2 x)
