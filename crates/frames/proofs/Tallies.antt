-- A whole sum.
use Rattle.std.proofs.Common.{◌≡◌, ℕ, suc, ◌*◌, ◌<◌, ◌≤◌, List, length, sym, ap, ◌∙◌, arith}
use Rattle.std.proofs.lemmas.List.{nil_from_length}
use Rattle.base.specs.Bytes.{cut}
use Rattle.base.proofs.Cuts.{cut-nil, cut_last}
use Rattle.compression.specs.Parts.{bytes_of}
use Rattle.frames.specs.Chain.{tally}
use Rattle.frames.specs.Offsets.{Entries, delta}
use Rattle.frames.specs.Progress.{Summing}
use Rattle.frames.specs.declared.offsets.OffsetTable.{OffsetTable}
use Rattle.frames.specs.declared.pass.Pass.{Pass}

module _ (w : ℕ) (z : 32 ≤ w) (F : List ℕ → List ℕ → List ℕ) where
  pub empty_tally : (D : ℕ → List ℕ) (close : ℕ → List ℕ → List ℕ → List ℕ) (acc src : List ℕ) → length src ≡ 0 → acc ≡ tally w F D close 1 acc (cut (2 * w) src)
  empty_tally D close acc src e = rw (nil_from_length src e, cut-nil (2 * w))

  -- the last block closes the sum
  pub summed : {X : Type 0} {g : _} (table : OffsetTable X g) (start : Pass X g) (src : List ℕ) (r : Pass X g) (rest : List ℕ) → 0 < length src → length rest ≤ 2 * w → Summing w F table start src r rest
      → (L : ℕ → List ℕ) (close : ℕ → List ℕ → List ℕ → List ℕ) → Entries table L
      → close (suc r.index) (bytes_of r.value) rest ≡ tally w F (delta L (bytes_of start.offset)) close 1 (bytes_of start.value) (cut (2 * w) src)
  summed table start src r rest some left s L close rs =
      let D = delta L (bytes_of start.offset) in
      sym (s.sum_is L close rs ∙ ap (tally w F D close (suc r.index) (bytes_of r.value)) (cut_last (2 * w) (omega arith) rest (s.full some) left))
