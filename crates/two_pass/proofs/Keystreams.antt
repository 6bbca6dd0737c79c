-- A pass under kind 6 is the mode's ciphertext.
use Rattle.std.proofs.Common.{◌≡◌, ℕ, suc, ◌*◌, List, refl, ap, ◌∙◌, ap₂}
use Rattle.base.specs.Bytes.{xor, digits, cut}
use Rattle.compression.specs.Parts.{bytes_of}
use Rattle.compression.specs.declared.part.Part.{Part}
use Rattle.frames.specs.Chain.{chain}
use Rattle.frames.specs.Feeds.{next_by}
use Rattle.frames.specs.Offsets.{Entries, Filled, delta, star}
use Rattle.frames.specs.declared.offsets.OffsetTable.{OffsetTable}
use Rattle.frames.specs.declared.rule.Feed.{Feed}
use Rattle.two_pass.specs.TwoPass.{times, entry, mask, from_tag, next, cipher}
use Rattle.two_pass.specs.Feeds.{feed_of}
use Rattle.two_pass.specs.declared.keystream.Keystream.{Keystream}
use Rattle.two_pass.specs.declared.keystream.Keystream.TheVariants.{Serial, Counter}
use Rattle.two_pass.proofs.Masks.{masks}

module _ (w fb : ℕ) (F : List ℕ → List ℕ → List ℕ) (d : List ℕ) (tau : ℕ) {X : Type 0} {g : _} (v bits : Part X g) (en : bytes_of bits ≡ digits w (8 * tau)) where
  -- what a keystream is fed by gives its next block
  next_is : (k : Keystream) → next_by F (feed_of k v bits) (mask w fb F d 6) ≡ next w fb F d k tau (bytes_of v)
  next_is Serial = refl
  next_is Counter = ap (λ m i h p. F (xor (bytes_of v) (mask w fb F d 6 (suc i))) m) en

  pub enciphers : (V : List ℕ → List ℕ → List ℕ) (k : Keystream) (feed : Feed X g) (table : OffsetTable X g) (offset val c p : List ℕ)
      → V ≡ F → feed ≡ feed_of k v bits → Filled w fb 3 (star w F) table
      → ((L : ℕ → List ℕ) → Entries table L → offset ≡ delta L (xor d (times w fb (bytes_of table.star) 6)) 1)
      → val ≡ F (xor (bytes_of v) offset) (bytes_of bits)
      → ((L : ℕ → List ℕ) (e : List ℕ) → Entries table L → offset ≡ delta L e 1 → c ≡ chain (next_by V feed (delta L e)) 1 val (cut w p))
      → c ≡ cipher w fb F d k tau (bytes_of v) p
  unfolding cipher
  enciphers V k feed table offset val c p ev ef f mk vl all =
      let L = entry w fb F in
      let kind = times w fb (bytes_of table.star) 6 in
      let ms : delta L (xor d kind) ≡ mask w fb F d 6 = masks w fb F d kind 6 (ap (λ l. times w fb l 6) f.star_is) in
      let first : offset ≡ mask w fb F d 6 1 = mk L f.entries_are ∙ ap (λ D. D 1) ms in
      let val_is : val ≡ from_tag w fb F d tau (bytes_of v) 1 = vl ∙ ap₂ (λ m n. F (xor (bytes_of v) m) n) first en in
      let nexts : next_by V feed (delta L (xor d kind)) ≡ next w fb F d k tau (bytes_of v) = ap₂ (λ G t. next_by G t (delta L (xor d kind))) ev ef ∙ ap (next_by F (feed_of k v bits)) ms ∙ next_is k in
      all L (xor d kind) f.entries_are (mk L f.entries_are) ∙ ap₂ (λ N h. chain N 1 h (cut w p)) nexts val_is
