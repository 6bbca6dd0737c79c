-- A whole page under its chain.
use Rattle.std.proofs.Common.{◌≡◌, ℕ, ◌+◌, ◌-◌, ◌<◌, ◌≤◌, List, ◌++◌, length, take, drop, sym, refl, ap, ◌∙◌, arith}
use borrow.Rule.Slice.PartMut.{put_mid}
use Rattle.std.proofs.lemmas.List.{length-take, length-drop, length-append, take_all, nil_from_length}
use Rattle.base.specs.Bytes.{cut, xor}
use Rattle.base.proofs.Cuts.{cut-nil}
use Rattle.base.proofs.Parts.{put_end}
use Rattle.base.proofs.Xors.{length-xor}
use Rattle.compression.specs.Parts.{bytes_of}
use Rattle.compression.specs.declared.part.Part.{Part}
use Rattle.frames.specs.Chain.{chain, ended}
use Rattle.frames.specs.Directions.{page_of, cipher_of}
use Rattle.frames.specs.Feeds.{next_by}
use Rattle.frames.specs.Offsets.{Entries, delta}
use Rattle.frames.specs.Progress.{Done, Going}
use Rattle.frames.specs.declared.offsets.OffsetTable.{OffsetTable}
use Rattle.frames.specs.declared.pass.Pass.{Pass}
use Rattle.frames.specs.declared.rule.Direction.{Direction}
use Rattle.frames.specs.declared.rule.Direction.TheVariants.{Seal, Open}
use Rattle.frames.specs.declared.rule.Rule.{Rule}
use Rattle.frames.proofs.Goings.{page_length, page_more, cipher_more}
use Rattle.frames.proofs.Turns.{done_last, ended_last}

-- an empty page
module _ (w : ℕ) (next : ℕ → List ℕ → List ℕ → List ℕ) (h : List ℕ) where
  pub empty_cipher : (dir : Direction) (src dst : List ℕ) → length src ≡ 0 → length dst ≡ length src → cipher_of dir src dst ≡ chain next 1 h (cut w (page_of dir src dst))
  empty_cipher Seal src dst e f = rw (nil_from_length src e, nil_from_length dst (f ∙ e), cut-nil w)
  empty_cipher Open src dst e f = rw (nil_from_length src e, nil_from_length dst (f ∙ e), cut-nil w)

  pub empty_ended : (last : ℕ → List ℕ → List ℕ → List ℕ) (dir : Direction) (src dst : List ℕ) → length src ≡ 0 → length dst ≡ length src → h ≡ ended next last 1 h (cut w (page_of dir src dst))
  empty_ended last Seal src dst e f = rw (nil_from_length src e, cut-nil w)
  empty_ended last Open src dst e f = rw (nil_from_length dst (f ∙ e), cut-nil w)

-- the pass has come to the last block, and dp was written for it
module _ {X : Type 0} {g : _} (w : ℕ) (z : 32 ≤ w) (long : (p : Part X g) → length (bytes_of p) ≡ w) (F : List ℕ → List ℕ → List ℕ) (table : OffsetTable X g) (rule : Rule X g) (start : Pass X g) (src dst dp : List ℕ) (r : Pass X g) (at : ℕ)
    (ld : length dst ≡ length src) (some : 0 < length src) (left : length src ≤ at + w)
    (going : Going w F table rule start src dst r at)
    (ep : dp ≡ xor (take (length src - at) (drop at src)) (bytes_of r.value))
    (L : ℕ → List ℕ) (d : List ℕ) (rs : Entries table L) (m0 : bytes_of start.offset ≡ delta L d 1) where
  sp : List ℕ
  sp = take (length src - at) (drop at src)

  block : List ℕ
  block = page_of rule.direction (take (length src - at) (drop at src)) dp

  after : List ℕ
  after = put_mid at (length src - at) dst dp

  whole : at + (length src - at) ≡ length src
  whole = let q = going.within in omega arith

  ls : length sp ≡ length src - at
  unfolding sp
  ls = simp (length-take, length-drop) (omega arith)

  lp : length dp ≡ length src - at
  unfolding sp
  lp = let a = ls in let b = long r.value in ap length ep ∙ length-xor sp (bytes_of r.value) ∙ omega arith

  lc : length block ≡ length src - at
  unfolding block sp
  lc = page_length (length src - at) rule.direction (take (length src - at) (drop at src)) dp ls lp

  la : length after ≡ length src
  unfolding after
  la =
      let q = going.within in
      ap length (put_end at (length src - at) dst dp (omega arith)) ∙ simp (length-append, length-take) (omega (arith, lp))

  all : (x : List ℕ) → length x ≡ length src → take (at + (length src - at)) x ≡ x
  all x e = take_all _ x (omega (arith, whole))

  cipher_length : (b : Direction) (x y : List ℕ) → length x ≡ length src → length y ≡ length src → length (cipher_of b x y) ≡ length src
  cipher_length Seal x y e f = f
  cipher_length Open x y e f = e

  page_is : page_of rule.direction src after ≡ take at (page_of rule.direction src dst) ++ block
  unfolding after block sp
  page_is = sym (all (page_of rule.direction src after) (page_length (length src) rule.direction src after refl la)) ∙ page_more src (length src - at) rule.direction at dst sp dp (omega (arith, whole)) lp refl

  cipher_is : cipher_of rule.direction src after ≡ take at (cipher_of rule.direction src dst) ++ xor block (bytes_of r.value)
  unfolding after block sp
  cipher_is = sym (all (cipher_of rule.direction src after) (cipher_length rule.direction src after refl la)) ∙ cipher_more src (length src - at) rule.direction at dst sp dp (bytes_of r.value) (omega (arith, whole)) lp refl ep (let b = long r.value in omega (arith, ls))

  done : Done w (next_by F rule.feed (delta L d)) (bytes_of start.value) (take at (page_of rule.direction src dst)) (take at (cipher_of rule.direction src dst)) r.index (bytes_of r.value)
  done = (going.goes L d rs m0).1

  pub enciphered : cipher_of rule.direction src (put_mid at (length src - at) dst dp) ≡ chain (next_by F rule.feed (delta L d)) 1 (bytes_of start.value) (cut w (page_of rule.direction src (put_mid at (length src - at) dst dp)))
  unfolding after
  enciphered =
      let f = going.full some in
      cipher_is ∙ sym (done_last w (omega arith) (next_by F rule.feed (delta L d)) (bytes_of start.value) (take at (page_of rule.direction src dst)) (take at (cipher_of rule.direction src dst)) block r.index (bytes_of r.value) (omega (arith, lc)) (omega (arith, lc)) done)
      ∙ ap (λ t. chain (next_by F rule.feed (delta L d)) 1 (bytes_of start.value) (cut w t)) (sym page_is)

  pub closes : (last : ℕ → List ℕ → List ℕ → List ℕ) → last r.index (bytes_of r.value) (page_of rule.direction (take (length src - at) (drop at src)) dp) ≡ ended (next_by F rule.feed (delta L d)) last 1 (bytes_of start.value) (cut w (page_of rule.direction src (put_mid at (length src - at) dst dp)))
  unfolding after block
  closes last =
      let f = going.full some in
      sym (ended_last w (omega arith) (next_by F rule.feed (delta L d)) (bytes_of start.value) last (take at (page_of rule.direction src dst)) (take at (cipher_of rule.direction src dst)) block r.index (bytes_of r.value) (omega (arith, lc)) (omega (arith, lc)) done)
      ∙ ap (λ t. ended (next_by F rule.feed (delta L d)) last 1 (bytes_of start.value) (cut w t)) (sym page_is)
