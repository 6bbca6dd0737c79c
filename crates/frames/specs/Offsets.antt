-- L*, the offsets D(i), and what the table of offsets holds.
use Rattle.std.specs.Prelude.{◌≡◌, ℕ, zero, suc, ◌<◌, List, slice_index_or}
use Rattle.std.specs.Int.Count.{count_trailing_zeros}
use Rattle.base.specs.Bytes.{xor, zeros, doubled}
use Rattle.compression.specs.Parts.{bytes_of}
use Rattle.compression.specs.declared.part.Part.{Part}
use Rattle.frames.specs.declared.offsets.OffsetTable.{OffsetTable}

-- L*
abbrev pub star : ℕ → (List ℕ → List ℕ → List ℕ) → List ℕ
star w F = F (zeros w) (zeros w)

-- D(i), where D(0) is d: d ⊕ L[ntz(1)] ⊕ .. ⊕ L[ntz(i)]
abbrev pub delta : (ℕ → List ℕ) → List ℕ → ℕ → List ℕ
delta L d zero = d
delta L d (suc i) = xor (delta L d i) (L (count_trailing_zeros 64 (suc i)))

-- the entries below n hold the doublings of the first one
abbrev pub Doublings : {F : Type 0} {g : _} → ℕ → List ℕ → ℕ → List (Part F g) → Type 0
Doublings {F = F} {g = g} fb first n entries = (k : ℕ) → k < n → (b : Part F g) → bytes_of (slice_index_or entries k b) ≡ doubled fb k first

-- the table's entries hold L
pub record Entries {F : Type 0} {g : _} (table : OffsetTable F g) (L : ℕ → List ℕ) : Type 0 where
  pub are : (k : ℕ) → k < 8 → (b : Part F g) → bytes_of (slice_index_or table.entries k b) ≡ L k

-- the table holds L*, and entries whose first is L* doubled `start` times
pub record Filled {F : Type 0} {g : _} (w fb start : ℕ) (l : List ℕ) (table : OffsetTable F g) : Type 0 where
  pub star_is : bytes_of table.star ≡ l
  pub entries_are : Entries table (λ k. doubled fb k (doubled fb start l))
