-- How far a pass over the blocks has come.
use Rattle.std.specs.Prelude.{◌≡◌, ℕ, suc, ◌+◌, ◌*◌, ◌<◌, ◌≤◌, List, ◌++◌, length, take}
use Rattle.std.specs.Int.Count.{count_trailing_zeros}
use Rattle.base.specs.Bytes.{cut, padded, xor}
use Rattle.compression.specs.Parts.{bytes_of}
use Rattle.frames.specs.Chain.{chain, ended, hashed, tally}
use Rattle.frames.specs.Directions.{page_of, cipher_of}
use Rattle.frames.specs.Feeds.{follow, next_by}
use Rattle.frames.specs.Offsets.{Entries, delta}
use Rattle.frames.specs.declared.offsets.OffsetTable.{OffsetTable}
use Rattle.frames.specs.declared.pass.Pass.{Pass}
use Rattle.frames.specs.declared.rule.Rule.{Rule}

-- after the page's front `page`, whose ciphertext is `cipher`, the next block is the i-th and H(i) is h: whatever follows, the rest goes on from there
pub record Done (w : ℕ) (next : ℕ → List ℕ → List ℕ → List ℕ) (h0 page cipher : List ℕ) (i : ℕ) (h : List ℕ) : Type 0 where
  pub enciphers : (rest : List ℕ) → chain next 1 h0 (cut w (page ++ rest)) ≡ cipher ++ chain next i h (cut w rest)
  pub ends : (last : ℕ → List ℕ → List ℕ → List ℕ) (rest : List ℕ) → 0 < length rest → ended next last 1 h0 (cut w (page ++ rest)) ≡ ended next last i h (cut w rest)

-- one block more, from src to dst
pub record Turned {X : Type 0} {g : _} (F : List ℕ → List ℕ → List ℕ) (table : OffsetTable X g) (rule : Rule X g) (before : Pass X g) (src dst : List ℕ) (after : Pass X g) : Type 0 where
  pub index_is : after.index ≡ before.index + 1
  pub dst_is : dst ≡ xor src (bytes_of before.value)
  pub offset_is : (L : ℕ → List ℕ) → Entries table L → bytes_of after.offset ≡ xor (bytes_of before.offset) (L (count_trailing_zeros 64 (before.index + 1)))
  pub value_is : bytes_of after.value ≡ follow F rule.feed (bytes_of after.offset) (bytes_of before.value) (page_of rule.direction src dst)

-- a pass from src to dst has come to its last block, which begins at `at`
pub record Going {X : Type 0} {g : _} (w : ℕ) (F : List ℕ → List ℕ → List ℕ) (table : OffsetTable X g) (rule : Rule X g) (start : Pass X g) (src dst : List ℕ) (r : Pass X g) (at : ℕ) : Type 0 where
  pub within : at ≤ length src
  pub full : 0 < length src → at < length src
  pub counted : 32 * r.index ≤ at + 32
  pub first : 1 ≤ r.index
  pub goes : (L : ℕ → List ℕ) (d : List ℕ) → Entries table L → bytes_of start.offset ≡ delta L d 1
      → (bytes_of r.offset ≡ delta L d r.index) × Done w (next_by F rule.feed (delta L d)) (bytes_of start.value) (take at (page_of rule.direction src dst)) (take at (cipher_of rule.direction src dst)) r.index (bytes_of r.value)

-- one block more in a sum
pub record Absorbed {X : Type 0} {g : _} (w : ℕ) (F : List ℕ → List ℕ → List ℕ) (table : OffsetTable X g) (before : Pass X g) (block : List ℕ) (after : Pass X g) : Type 0 where
  pub index_is : after.index ≡ before.index + 1
  pub offset_is : (L : ℕ → List ℕ) → Entries table L → bytes_of after.offset ≡ xor (bytes_of before.offset) (L (count_trailing_zeros 64 (before.index + 1)))
  pub value_is : bytes_of after.value ≡ xor (bytes_of before.value) (hashed w F (bytes_of after.offset) (padded (2 * w) block))

-- a sum over blocks of 2w bytes, where `rest` of src is left
pub record Summing {X : Type 0} {g : _} (w : ℕ) (F : List ℕ → List ℕ → List ℕ) (table : OffsetTable X g) (start : Pass X g) (src : List ℕ) (r : Pass X g) (rest : List ℕ) : Type 0 where
  pub full : 0 < length src → 0 < length rest
  pub counted : 32 * r.index + length rest ≤ length src
  pub offset_is : (L : ℕ → List ℕ) → Entries table L → bytes_of r.offset ≡ delta L (bytes_of start.offset) r.index
  pub sum_is : (L : ℕ → List ℕ) (close : ℕ → List ℕ → List ℕ → List ℕ) → Entries table L
      → tally w F (delta L (bytes_of start.offset)) close 1 (bytes_of start.value) (cut (2 * w) src) ≡ tally w F (delta L (bytes_of start.offset)) close (suc r.index) (bytes_of r.value) (cut (2 * w) rest)
