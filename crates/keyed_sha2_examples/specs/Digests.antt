-- FIPS 180-4, sections 5 and 6: whole digests, from the compression alone, and the standard's worked examples.
use Rattle.std.specs.Prelude.{◌≡◌, ℕ, ◌+◌, ◌-◌, ◌*◌, ◌%◌, List, ◌∷◌, ◌++◌, length, codes, fold}
use Rattle.base.specs.Bytes.{zeros, digits, cut}
use Rattle.fips180.specs.Words.{Sizes, sha256, sha512}
use Rattle.fips180.specs.Compression.{compressed}

-- the bytes of a block
abbrev pub block_bytes : Sizes → ℕ
block_bytes z = 16 * z.bytes

-- 80, as few zeros as fill whole blocks, and the length in bits as a number of two words
abbrev pub padding : Sizes → ℕ → List ℕ
padding z n =
    0x80 ∷ zeros ((2 * block_bytes z - (n + 1 + 2 * z.bytes) % block_bytes z) % block_bytes z) ++ digits (2 * z.bytes) (8 * n)

-- the chaining value after all blocks of a message
abbrev pub digest : Sizes → List ℕ → List ℕ → List ℕ
digest z start message = fold (compressed z) start (cut (block_bytes z) (message ++ padding z (length message)))

-- the first chaining values
abbrev pub start256 : List ℕ
start256 = digits 32 0x6a09e667bb67ae853c6ef372a54ff53a510e527f9b05688c1f83d9ab5be0cd19

abbrev pub start512 : List ℕ
start512 = digits 64 0x6a09e667f3bcc908bb67ae8584caa73b3c6ef372fe94f82ba54ff53a5f1d36f1510e527fade682d19b05688c2b3e6c1f1f83d9abfb41bd6b5be0cd19137e2179

-- one block, two blocks, and the two blocks of SHA-512
abbrev pub short : List ℕ
short = codes "abc"

abbrev pub long256 : List ℕ
long256 = codes "abcdbcdecdefdefgefghfghighijhijkijkljklmklmnlmnomnopnopq"

abbrev pub long512 : List ℕ
long512 = codes "abcdefghbcdefghicdefghijdefghijkefghijklfghijklmghijklmnhijklmnoijklmnopjklmnopqklmnopqrlmnopqrsmnopqrstnopqrstu"

pub record Examples : Type 0 where
  pub short256 : digest sha256 start256 short ≡ digits 32 0xba7816bf8f01cfea414140de5dae2223b00361a396177a9cb410ff61f20015ad
  pub two256 : digest sha256 start256 long256 ≡ digits 32 0x248d6a61d20638b8e5c026930c3e6039a33ce45964ff2167f6ecedd419db06c1
  pub short512 : digest sha512 start512 short ≡ digits 64 0xddaf35a193617abacc417349ae20413112e6fa4e89a97ea20a9eeee64b55d39a2192992a274fc1a836ba3c23a3feebbd454d4423643ce80e2a9ac94fa54ca49f
  pub two512 : digest sha512 start512 long512 ≡ digits 64 0x8e959b75dae313da8cf4f72814fc143f8f7779c6eb9f7fa17299aeadb6889018501d289e4900f7e4331b99dec4b5433ac7d329eeb6dd26545e96e55b874be909
