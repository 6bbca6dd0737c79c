-- Kinds, and the sums over associated data and page.
use Rattle.std.proofs.Common.{◌≡◌, ℕ, suc, ◌+◌, ◌*◌, ◌<◌, ◌≤◌, cond, Bool, true, false, ltb, List, [], ◌∷◌, length, sym, refl, ap, ◌∙◌, ap₂, not-suc-le-zero, add-one, arith}
use lib.Count.{count_trailing_zeros}
use Rattle.std.proofs.lemmas.List.{nil_from_length}
use Rattle.base.specs.Bytes.{xor, zeros, padded, doubled, cut}
use Rattle.compression.specs.Parts.{bytes_of}
use Rattle.compression.specs.declared.part.Part.{Part}
use Rattle.base.proofs.Cuts.{cut-nil}
use Rattle.base.proofs.Doubles.{length-doubled}
use Rattle.base.proofs.Xors.{xor_undo}
use Rattle.frames.specs.Chain.{hashed, closed, tally}
use Rattle.frames.specs.Offsets.{Entries, Filled, delta, star}
use Rattle.frames.specs.Progress.{Summing}
use Rattle.frames.specs.declared.offsets.OffsetTable.{OffsetTable}
use Rattle.frames.specs.declared.pass.Pass.{Pass}
use Rattle.frames.proofs.Laws.{delta_start, length-delta}
use Rattle.frames.proofs.Tallies.{empty_tally, summed}
use Rattle.two_pass.specs.TwoPass.{times, page_blocks, entry, mask, ad_sum, tag_block}
use Rattle.two_pass.specs.Kinds.{ad_kinds, number_of, page_kinds}
use Rattle.two_pass.specs.Sums.{Summed}
use Rattle.two_pass.specs.declared.kinds.Kind.{Kind}
use Rattle.two_pass.specs.declared.kinds.Kinds.{Kinds}
use Rattle.two_pass.proofs.Masks.{masks}

pub some_blocks : (w : ℕ) (p : List ℕ) → 0 < length p → page_blocks w p ≡ cut (2 * w) p
some_blocks w [] h = absurd (not-suc-le-zero h)
some_blocks w (x ∷ xs) h = refl

-- the last block closes the sum; where there is no block, an empty one does
blocks_summed : (w : ℕ) → 32 ≤ w → (F : List ℕ → List ℕ → List ℕ) {X : Type 0} {g : _} (table : OffsetTable X g) (start r : Pass X g) (src rest : List ℕ) → length rest ≤ 2 * w → Summing w F table start src r rest
    → (L : ℕ → List ℕ) (close : ℕ → List ℕ → List ℕ → List ℕ) → Entries table L
    → close (suc r.index) (bytes_of r.value) rest ≡ tally w F (delta L (bytes_of start.offset)) close 1 (bytes_of start.value) (page_blocks w src)
blocks_summed w z F table start r [] rest left s L close rs =
    let n0 : rest ≡ [] = nil_from_length rest (let q = s.counted in omega arith) in
    let i0 : r.index ≡ 0 = let q = s.counted in omega arith in
    let v : bytes_of start.value ≡ bytes_of r.value = rw (n0, cut-nil (2 * w)) at (s.sum_is L close rs) in
    rw (n0, i0, v)
blocks_summed w z F table start r (x ∷ xs) rest left s L close rs = summed w z F table start (x ∷ xs) r rest (omega arith) left s L close rs

cond_number : (b : Bool) (x y : Kind) → number_of (cond b x y) ≡ cond b (number_of x) (number_of y)
cond_number true x y = refl
cond_number false x y = refl

-- the sum has come to the last block: its kind takes the place of the others'
module _ {X : Type 0} {g : _} (w fb : ℕ) (z : 32 ≤ w) (long : (p : Part X g) → length (bytes_of p) ≡ w) (F : List ℕ → List ℕ → List ℕ) (kinds : Kinds) (d : Part X g) (sum src rest : List ℕ) (table : OffsetTable X g) (f : Filled w fb 3 (star w F) table) (start r : Pass X g)
    (kind next turned last block : Part X g) (k : Kind) (v : ℕ)
    (ek : bytes_of kind ≡ times w fb (bytes_of table.star) (number_of kinds.front)) (eo : bytes_of start.offset ≡ xor (bytes_of d) (bytes_of kind)) (es : bytes_of start.value ≡ sum)
    (s : Summing w F table start src r rest) (left : length rest ≤ 2 * w) (e : v ≡ w)
    (ej : k ≡ cond (ltb (length rest) (2 * v)) kinds.short kinds.full) (el : bytes_of last ≡ times w fb (bytes_of table.star) (number_of k))
    (mk : (L : ℕ → List ℕ) → Entries table L → bytes_of next ≡ xor (bytes_of r.offset) (L (count_trailing_zeros 64 (r.index + 1))))
    (et : bytes_of turned ≡ xor (bytes_of next) (bytes_of kind)) (eb : bytes_of block ≡ xor (bytes_of turned) (bytes_of last)) where
  length-entry : (k : ℕ) → length (entry w fb F k) ≡ w
  length-entry k = length-doubled fb k (doubled fb 3 (star w F)) ∙ length-doubled fb 3 (star w F) ∙ ap length (sym f.star_is) ∙ long table.star

  from : bytes_of r.offset ≡ delta (entry w fb F) (xor (bytes_of d) (bytes_of kind)) r.index
  from = s.offset_is (entry w fb F) f.entries_are ∙ ap (λ x. delta (entry w fb F) x r.index) eo

  next_is : bytes_of next ≡ xor (delta (entry w fb F) (bytes_of d) (suc r.index)) (bytes_of kind)
  next_is = mk (entry w fb F) f.entries_are ∙ rw (from, add-one r.index) (delta_start (entry w fb F) (bytes_of d) (bytes_of kind) (suc r.index))

  turned_is : bytes_of turned ≡ delta (entry w fb F) (bytes_of d) (r.index + 1)
  turned_is =
      let l = length-delta (entry w fb F) (bytes_of d) w (long d) length-entry (suc r.index) in
      let lk = long kind in
      et ∙ ap (λ x. xor x (bytes_of kind)) next_is ∙ xor_undo (delta (entry w fb F) (bytes_of d) (suc r.index)) (bytes_of kind) (omega arith) ∙ ap (delta (entry w fb F) (bytes_of d)) (sym (add-one r.index))

  last_is : bytes_of last ≡ times w fb (star w F) (cond (ltb (length rest) (2 * w)) (number_of kinds.short) (number_of kinds.full))
  last_is = el ∙ rw (ej, f.star_is, e) (ap (times w fb (star w F)) (cond_number (ltb (length rest) (2 * w)) kinds.short kinds.full))

  pub summed_to : Summed w fb F kinds (bytes_of d) sum src (record { index = r.index + 1; offset = block; value = r.value }) rest
  summed_to = record {
    left = left;
    offset_is = eb ∙ ap₂ xor turned_is last_is;
    sum_is = λ close.
        ap (λ i. close i (bytes_of r.value) rest) (add-one r.index)
        ∙ blocks_summed w z F table start r src rest left s (entry w fb F) close f.entries_are
        ∙ ap₂ (λ D x. tally w F D close 1 x (page_blocks w src)) (ap (delta (entry w fb F)) eo ∙ masks w fb F (bytes_of d) (bytes_of kind) (number_of kinds.front) (ek ∙ ap (λ l. times w fb l (number_of kinds.front)) f.star_is)) es;
  }

module _ (w fb : ℕ) (z : 32 ≤ w) (F V : List ℕ → List ℕ → List ℕ) (d : List ℕ) (ev : V ≡ F) where
  -- no associated data
  pub empty_ad : (none ad : List ℕ) → none ≡ zeros w → length ad ≡ 0 → none ≡ ad_sum w fb F d ad
  unfolding ad_sum
  empty_ad none ad a l = a ∙ empty_tally w z F (mask w fb F d 1) (λ i s b. xor s (closed w F (λ short. mask w fb F d (cond short 5 3) i) b)) (zeros w) ad l

  -- the last block's hash goes into the sum
  pub ad_is : {X : Type 0} {g : _} (none ad rest hs total : List ℕ) (r : Pass X g) → none ≡ zeros w → 0 < length ad → Summed w fb F ad_kinds d none ad r rest
      → hs ≡ hashed w V (bytes_of r.offset) (padded (2 * w) rest) → total ≡ xor (bytes_of r.value) hs → total ≡ ad_sum w fb F d ad
  unfolding ad_sum
  ad_is none ad rest hs total r ez some s eh et =
      let close = λ (i : ℕ) (s b : List ℕ). xor s (closed w F (λ short. mask w fb F d (cond short 5 3) i) b) in
      et ∙ ap (xor (bytes_of r.value)) (eh ∙ rw (ev, s.offset_is)) ∙ s.sum_is close ∙ ap₂ (λ x bs. tally w F (mask w fb F d 1) close 1 x bs) ez (some_blocks w ad some)

  -- the last block goes under the sum
  pub tag_is : {X : Type 0} {g : _} (sum page rest under hs : List ℕ) (r : Pass X g) → Summed w fb F page_kinds d sum page r rest
      → under ≡ xor (bytes_of r.value) (bytes_of r.offset) → hs ≡ hashed w V under (padded (2 * w) rest) → hs ≡ tag_block w fb F d sum page
  unfolding tag_block
  tag_is sum page rest under hs r s eu eh =
      let close = λ (i : ℕ) (s b : List ℕ). closed w F (λ short. xor s (mask w fb F d (cond short 4 2) i)) b in
      eh ∙ rw (ev, eu, s.offset_is) (s.sum_is close)
