-- One block more in a sum.
use Rattle.std.proofs.Common.{◌≡◌, ℕ, suc, ◌+◌, ◌*◌, ◌<◌, ◌≤◌, List, ◌∷◌, length, take, drop, sym, ap, ◌∙◌, add-one, arith}
use Rattle.std.proofs.lemmas.List.{length-take, length-drop}
use Rattle.base.specs.Bytes.{cut, xor}
use Rattle.base.proofs.Cuts.{cut_more}
use Rattle.base.proofs.Pads.{padded_full}
use Rattle.compression.specs.Parts.{bytes_of}
use Rattle.frames.specs.Chain.{hashed, tally}
use Rattle.frames.specs.Offsets.{Entries, delta}
use Rattle.frames.specs.Progress.{Absorbed, Summing}
use Rattle.frames.specs.declared.offsets.OffsetTable.{OffsetTable}
use Rattle.frames.specs.declared.pass.Pass.{Pass}

module _ {X : Type 0} {g : _} (w : ℕ) (z : 32 ≤ w) (F : List ℕ → List ℕ → List ℕ) (table : OffsetTable X g) (start : Pass X g) (src : List ℕ) where
  tally_more : (D : ℕ → List ℕ) (close : ℕ → List ℕ → List ℕ → List ℕ) (i : ℕ) (acc b r : List ℕ) → 0 < length r → tally w F D close i acc (b ∷ cut (2 * w) r) ≡ tally w F D close (suc i) (xor acc (hashed w F (D i) b)) (cut (2 * w) r)
  tally_more D close i acc b r l = let pos : 0 < 2 * w = omega arith in rw (cut_more (2 * w) pos r l)

  pub summing_more : (r r' : Pass X g) (rest : List ℕ) → 2 * w < length rest
      → Summing w F table start src r rest
      → Absorbed w F table r (take (2 * w) rest) r'
      → Summing w F table start src r' (drop (2 * w) rest)
  summing_more r r' rest more t a =
      let i = r.index in
      let d0 = bytes_of start.offset in
      let b = take (2 * w) rest in
      let lb : length b ≡ 2 * w = simp length-take (omega arith) in
      let ld : length (drop (2 * w) rest) + 2 * w ≡ length rest = simp length-drop (omega arith) in
      let es : r'.index ≡ suc i = a.index_is ∙ add-one i in
      let ev : bytes_of r'.value ≡ xor (bytes_of r.value) (hashed w F (bytes_of r'.offset) b) = a.value_is ∙ rw (padded_full (2 * w) b lb) in
      let m' : (L : ℕ → List ℕ) → Entries table L → bytes_of r'.offset ≡ delta L d0 (suc i) = λ L rs. a.offset_is L rs ∙ rw (t.offset_is L rs, add-one i) in
      record {
        full = λ _. omega arith;
        counted = omega (arith, t.counted);
        offset_is = λ L rs. m' L rs ∙ ap (delta L d0) (sym es);
        sum_is = λ L close rs.
            let D = delta L d0 in
            let v : xor (bytes_of r.value) (hashed w F (D (suc i)) b) ≡ bytes_of r'.value = sym (ev ∙ ap (λ n. xor (bytes_of r.value) (hashed w F n b)) (m' L rs)) in
            t.sum_is L close rs ∙ ap (tally w F D close (suc i) (bytes_of r.value)) (cut_more (2 * w) (omega arith) rest (omega arith)) ∙ tally_more D close (suc i) (bytes_of r.value) b (drop (2 * w) rest) (omega arith) ∙ rw (v, es);
      }

  -- the same, where the code's size of a block is v
  pub summing_at : (v : ℕ) → v ≡ 2 * w → (r r' : Pass X g) (rest block left : List ℕ) → v < length rest → block ≡ take v rest → left ≡ drop v rest
      → Summing w F table start src r rest
      → Absorbed w F table r block r'
      → Summing w F table start src r' left
  summing_at v e r r' rest block left more eb el t a = rw (el, e) (summing_more r r' rest (rw e at more) t (rw (eb, e) at a))
