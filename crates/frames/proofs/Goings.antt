-- One turn more of a pass.
use Rattle.std.proofs.Common.{◌≡◌, ℕ, suc, ◌+◌, ◌-◌, ◌<◌, ◌≤◌, List, ◌++◌, length, take, drop, sym, refl, ap, ◌∙◌, add-one, arith, take-add}
use borrow.Rule.Slice.PartMut.{put_mid}
use Rattle.std.proofs.lemmas.List.{length-take, length-drop}
use Rattle.std.proofs.lemmas.Slice.{take-put_mid}
use Rattle.base.specs.Bytes.{xor}
use Rattle.base.proofs.Xors.{length-xor, xor_undo}
use Rattle.compression.specs.Parts.{bytes_of}
use Rattle.compression.specs.declared.part.Part.{Part}
use Rattle.frames.specs.Directions.{page_of, cipher_of}
use Rattle.frames.specs.Feeds.{next_by}
use Rattle.frames.specs.Offsets.{delta}
use Rattle.frames.specs.Progress.{Going, Turned}
use Rattle.frames.specs.declared.offsets.OffsetTable.{OffsetTable}
use Rattle.frames.specs.declared.pass.Pass.{Pass}
use Rattle.frames.specs.declared.rule.Direction.{Direction}
use Rattle.frames.specs.declared.rule.Direction.TheVariants.{Seal, Open}
use Rattle.frames.specs.declared.rule.Rule.{Rule}
use Rattle.frames.proofs.Turns.{done_none, done_more}

pub page_length : (w : ℕ) (dir : Direction) (s t : List ℕ) → length s ≡ w → length t ≡ w → length (page_of dir s t) ≡ w
page_length w Seal s t a b = a
page_length w Open s t a b = b

-- the page and its ciphertext up to the end of a block of k bytes: sp is the block of src, and dp that of dst
module _ (src : List ℕ) (k : ℕ) where
  pub page_more : (dir : Direction) (at : ℕ) (dst sp dp : List ℕ) → at + k ≤ length dst → length dp ≡ k → sp ≡ take k (drop at src) → take (at + k) (page_of dir src (put_mid at k dst dp)) ≡ take at (page_of dir src dst) ++ page_of dir sp dp
  page_more Seal at dst sp dp l m e = take-add at k src ∙ ap (λ t. take at src ++ t) (sym e)
  page_more Open at dst sp dp l m e = take-put_mid at k dst dp (at + k) (omega arith) (omega arith)

  pub cipher_more : (dir : Direction) (at : ℕ) (dst sp dp h : List ℕ) → at + k ≤ length dst → length dp ≡ k → sp ≡ take k (drop at src) → dp ≡ xor sp h → length sp ≤ length h → take (at + k) (cipher_of dir src (put_mid at k dst dp)) ≡ take at (cipher_of dir src dst) ++ xor (page_of dir sp dp) h
  cipher_more Seal at dst sp dp h l m e x z = take-put_mid at k dst dp (at + k) (omega arith) (omega arith) ∙ ap (λ t. take at dst ++ t) x
  cipher_more Open at dst sp dp h l m e x z = take-add at k src ∙ ap (λ t. take at src ++ t) (sym e ∙ sym (xor_undo sp h z) ∙ ap (λ t. xor t h) (sym x))

module _ {X : Type 0} {g : _} (w : ℕ) (z : 32 ≤ w) (long : (p : Part X g) → length (bytes_of p) ≡ w) (F : List ℕ → List ℕ → List ℕ) (table : OffsetTable X g) (rule : Rule X g) (start : Pass X g) (src : List ℕ) where
  pub going_none : (dst : List ℕ) → start.index ≡ 1 → Going w F table rule start src dst start 0
  going_none dst i = record {
    within = omega arith;
    full = λ h. h;
    counted = omega arith;
    first = omega arith;
    goes = λ L d rs e. (e ∙ ap (delta L d) (sym i), rw i (done_none w (omega arith) (next_by F rule.feed (delta L d)) (bytes_of start.value)));
  }

  pub going_more : (r r' : Pass X g) (at : ℕ) (dst dp : List ℕ) → length dst ≡ length src → length src ≤ 4096 → w < length src - at
      → Going w F table rule start src dst r at
      → Turned F table rule r (take (at + w - at) (drop at src)) dp r'
      → Going w F table rule start src (put_mid at (at + w - at) dst dp) r' (at + w)
  going_more r r' at dst dp ld small more d t =
      let dir = rule.direction in
      let i = r.index in
      let h = bytes_of r.value in
      let k : at + w - at ≡ w = omega arith in
      let sp = take w (drop at src) in
      let ls : length sp ≡ w = simp (length-take, length-drop) (omega arith) in
      let ep : dp ≡ xor sp h = t.dst_is ∙ ap (λ n. xor (take n (drop at src)) h) k in
      let lh : length h ≡ w = long r.value in
      let lp : length dp ≡ w = ap length ep ∙ length-xor sp h ∙ omega arith in
      let lc : length (page_of dir sp dp) ≡ w = page_length w dir sp dp ls lp in
      let ei = t.index_is in
      let es : r'.index ≡ suc i = ei ∙ add-one i in
      record {
        within = omega arith;
        full = λ _. omega arith;
        counted = omega (arith, d.counted);
        first = omega arith;
        goes = λ L e0 rs m0.
            let q = d.goes L e0 rs m0 in
            let em : bytes_of r'.offset ≡ delta L e0 (suc i) = t.offset_is L rs ∙ rw (q.0, add-one i) in
            let eh : bytes_of r'.value ≡ next_by F rule.feed (delta L e0) i h (page_of dir sp dp) = t.value_is ∙ rw (k, em) in
            let page = page_more src w dir at dst sp dp (omega arith) lp refl in
            let cipher = cipher_more src w dir at dst sp dp h (omega arith) lp refl ep (omega arith) in (
              em ∙ ap (delta L e0) (sym es),
              rw (es, k, page, cipher, eh) (done_more w (omega arith) (next_by F rule.feed (delta L e0)) (bytes_of start.value) _ _ (page_of dir sp dp) i h lc q.1),
            );
      }

  -- the same, where the code's width is v
  pub going_at : (v : ℕ) → v ≡ w → (r r' : Pass X g) (at : ℕ) (dst dp : List ℕ) → length dst ≡ length src → length src ≤ 4096 → v < length src - at
      → Going w F table rule start src dst r at
      → Turned F table rule r (take (at + v - at) (drop at src)) dp r'
      → Going w F table rule start src (put_mid at (at + v - at) dst dp) r' (at + v)
  going_at v e = rw e going_more
