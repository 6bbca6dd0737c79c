-- A run of OMD over a page and its associated data, as the definitions have it.
use Rattle.std.proofs.Common.{◌≡◌, ℕ, suc, ◌+◌, ◌-◌, ◌*◌, ◌<◌, ◌≤◌, cond, ltb, List, length, ap, ◌∙◌, add-one, arith}
use lib.Count.{count_trailing_zeros}
use Rattle.base.specs.Bytes.{xor, zeros, padded, digits}
use Rattle.compression.specs.Parts.{bytes_of}
use Rattle.frames.specs.Chain.{hashed, closed}
use Rattle.frames.specs.Offsets.{Entries, Filled, delta, star}
use Rattle.frames.specs.Progress.{Summing}
use Rattle.frames.specs.declared.offsets.OffsetTable.{OffsetTable}
use Rattle.frames.specs.declared.pass.Pass.{Pass}
use Rattle.frames.proofs.Tallies.{empty_tally, summed}
use Rattle.omd.specs.Omd.{entry, nonce_offset, first, ending, ad_offset, ad_last, ad_tag, cipher, page_tag, cipher_from, tag_from}

module _ (w fb : ℕ) (z : 32 ≤ w) (F : List ℕ → List ℕ → List ℕ) where
  pub ended_by : (V : List ℕ → List ℕ → List ℕ) (st m h p d : List ℕ) (i : ℕ) → V ≡ F → st ≡ star w F → m ≡ delta (entry w fb F) d i → ending w fb V st m h p ≡ ending w fb F (star w F) (delta (entry w fb F) d i) h p
  ended_by V st m h p d i e s f = rw (e, s, f)

  pub empty_ad : (acc ad : List ℕ) → acc ≡ zeros w → length ad ≡ 0 → acc ≡ ad_tag w fb F ad
  unfolding ad_tag
  empty_ad acc ad a l = a ∙ empty_tally w z F (ad_offset w fb F) (λ i acc b. xor acc (closed w F (ad_last w fb F i) b)) (zeros w) ad l

  -- the last block's hash goes into the sum
  pub ad_summed : {X : Type 0} {g : _} (t : OffsetTable X g) (none ad b offset hs total : List ℕ) (start r : Pass X g) (v : ℕ) (V : List ℕ → List ℕ → List ℕ)
      → v ≡ w → V ≡ F → none ≡ zeros w → bytes_of start.offset ≡ none → bytes_of start.value ≡ none
      → Filled w fb 2 (star w F) t → 0 < length ad → length b ≤ 2 * w
      → Summing w F t start ad r b
      → ((L : ℕ → List ℕ) → Entries t L → offset ≡ cond (ltb (length b) (2 * v)) (xor (bytes_of r.offset) (bytes_of t.star)) (xor (bytes_of r.offset) (L (count_trailing_zeros 64 (r.index + 1)))))
      → hs ≡ hashed w V offset (padded (2 * w) b)
      → total ≡ xor (bytes_of r.value) hs
      → total ≡ ad_tag w fb F ad
  unfolding ad_tag
  ad_summed t none ad b offset hs total start r v V e ev ez em es f some left s mk eh et =
      let L = entry w fb F in
      let rs = f.entries_are in
      let d0 : bytes_of start.offset ≡ zeros w = em ∙ ez in
      let m0 : bytes_of r.offset ≡ ad_offset w fb F r.index = s.offset_is L rs ∙ ap (λ d. delta L d r.index) d0 in
      let back : suc r.index - 1 ≡ r.index = omega arith in
      let offset_is : offset ≡ ad_last w fb F (suc r.index) (ltb (length b) (2 * w)) = mk L rs ∙ rw (m0, f.star_is, e, back, add-one r.index) in
      let close = λ (i : ℕ) (acc x : List ℕ). xor acc (closed w F (ad_last w fb F i) x) in
      et ∙ ap (xor (bytes_of r.value)) (eh ∙ rw (ev, offset_is)) ∙ summed w z F t start ad r b some left s L close rs ∙ rw (d0, es, ez)

-- a run from D(1) and H(1)
module _ (w fb : ℕ) (F V2 V3 : List ℕ → List ℕ → List ℕ) (tau t : ℕ) (n offset val page : List ℕ) {X : Type 0} {g : _} (a : OffsetTable X g)
    (e2 : V2 ≡ F) (e3 : V3 ≡ F) (et : t ≡ tau) (rs : Entries a (entry w fb F))
    (mk : (L : ℕ → List ℕ) → Entries a L → offset ≡ delta L (nonce_offset w fb V2 n) 1)
    (vl : val ≡ V2 offset (digits w (8 * t))) where
  first_offset : offset ≡ delta (entry w fb F) (nonce_offset w fb F n) 1
  first_offset = mk (entry w fb F) rs ∙ rw e2

  first_value : val ≡ first w fb F tau (nonce_offset w fb F n)
  first_value = vl ∙ rw (e2, et, first_offset)

  pub run_cipher : (x : List ℕ) → ((d : List ℕ) → offset ≡ delta (entry w fb V3) d 1 → x ≡ cipher_from w fb V3 d val page) → x ≡ cipher w fb F tau n page
  unfolding cipher
  run_cipher x k =
      let k' : (d : List ℕ) → offset ≡ delta (entry w fb F) d 1 → x ≡ cipher_from w fb F d val page = rw e3 at k in
      k' (nonce_offset w fb F n) first_offset ∙ ap (λ h. cipher_from w fb F (nonce_offset w fb F n) h page) first_value

  pub run_tag : (x : List ℕ) → ((d : List ℕ) → offset ≡ delta (entry w fb V3) d 1 → x ≡ tag_from w fb V3 d val page) → x ≡ page_tag w fb F tau n page
  unfolding page_tag
  run_tag x k =
      let k' : (d : List ℕ) → offset ≡ delta (entry w fb F) d 1 → x ≡ tag_from w fb F d val page = rw e3 at k in
      k' (nonce_offset w fb F n) first_offset ∙ ap (λ h. tag_from w fb F (nonce_offset w fb F n) h page) first_value
