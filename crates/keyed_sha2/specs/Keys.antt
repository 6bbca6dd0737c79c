-- A compression of FIPS 180-4 under a key.
use Rattle.std.specs.Prelude.{ℕ, ◌*◌, List}
use Rattle.base.specs.Bytes.{filled}
use Rattle.fips180.specs.Words.{Sizes}
use Rattle.fips180.specs.Compression.{half_fixed}

-- F(H, M) is the compression on the chaining value H and the block of key, zeros, M: the key and its zeros fill the first half
abbrev pub keyed : Sizes → List ℕ → List ℕ → List ℕ → List ℕ
keyed z key = half_fixed z (filled (8 * z.bytes) key)
