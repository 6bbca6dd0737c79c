-- Lengths, and that a ciphertext tells its page.
use Rattle.std.proofs.Common.{◌≡◌, ℕ, zero, suc, ◌*◌, ◌<◌, ◌≤◌, min, Bool, ltb, List, [], ◌∷◌, ◌++◌, length, take, drop, sym, refl, ap, ◌∙◌, inl, inr, not-suc-le-zero, arith}
use lib.Count.{count_trailing_zeros}
use Rattle.std.proofs.lemmas.List.{length-replicate, length-take, length-drop, length-append, take_at, drop_at, take-append-drop, nil_from_length}
use Rattle.std.proofs.lemmas.Bool.Decides.{leb_tells}
use Rattle.base.specs.Bytes.{cut, xor, zeros, padded, doubled}
use Rattle.base.proofs.Cuts.{cut_more, cut-nil, cut_last}
use Rattle.base.proofs.Doubles.{length-doubled}
use Rattle.base.proofs.Pads.{length-padded}
use Rattle.base.proofs.Xors.{length-xor, xor_group, xor_same, xor_swap}
use Rattle.frames.specs.Chain.{chain, ended, tally, hashed, closed}
use Rattle.frames.specs.Offsets.{delta, star}

-- two lists in two parts, of which the first have one length
pub front_same : (xs ys cs bs : List ℕ) → length xs ≡ length ys → xs ++ cs ≡ ys ++ bs → xs ≡ ys
front_same xs ys cs bs l e = sym (take_at xs cs (length xs) refl) ∙ ap (take (length xs)) e ∙ take_at ys bs (length xs) (sym l)

pub back_same : (xs ys cs bs : List ℕ) → length xs ≡ length ys → xs ++ cs ≡ ys ++ bs → cs ≡ bs
back_same xs ys cs bs l e = sym (drop_at xs cs (length xs) refl) ∙ ap (drop (length xs)) e ∙ drop_at ys bs (length xs) (sym l)

-- an offset has the width of its start
pub length-delta : (L : ℕ → List ℕ) (d : List ℕ) (w : ℕ) → length d ≡ w → ((k : ℕ) → length (L k) ≡ w) → (i : ℕ) → length (delta L d i) ≡ w
length-delta L d w e f zero = e
length-delta L d w e f (suc i) = let k = count_trailing_zeros 64 (suc i) in length-xor (delta L d i) (L k) ∙ omega (arith, length-delta L d w e f i, f k)

pub length-zeros : (w : ℕ) → length (zeros w) ≡ w
length-zeros w = length-replicate {A = ℕ} w 0

-- L*, and the entries of a table that starts anywhere, have the width
module _ (w : ℕ) (F : List ℕ → List ℕ → List ℕ) (sized : (h m : List ℕ) → length h ≡ w → length m ≡ w → length (F h m) ≡ w) where
  pub length-star : length (star w F) ≡ w
  length-star = sized (zeros w) (zeros w) (length-zeros w) (length-zeros w)

  pub length-entry : (fb start k : ℕ) → length (doubled fb k (doubled fb start (star w F))) ≡ w
  length-entry fb start k = length-doubled fb k (doubled fb start (star w F)) ∙ length-doubled fb start (star w F) ∙ length-star

-- what goes into the start goes into each offset
pub delta_start : (L : ℕ → List ℕ) (d k : List ℕ) (i : ℕ) → delta L (xor d k) i ≡ xor (delta L d i) k
delta_start L d k zero = refl
delta_start L d k (suc i) =
    let l = L (count_trailing_zeros 64 (suc i)) in
    ap (λ t. xor t l) (delta_start L d k i) ∙ xor_group (delta L d i) k l ∙ ap (xor (delta L d i)) (xor_swap k l) ∙ sym (xor_group (delta L d i) l k)

-- `next` of w bytes and w bytes has w bytes
module _ (w : ℕ) (z : 0 < w) (next : ℕ → List ℕ → List ℕ → List ℕ) (sized : (i : ℕ) (h p : List ℕ) → length h ≡ w → length p ≡ w → length (next i h p) ≡ w) where
  chain_cut : (i : ℕ) (h p : List ℕ) → 0 < length p → chain next i h (cut w p) ≡ xor (take w p) h ++ chain next (suc i) (next i h (take w p)) (cut w (drop w p))
  chain_cut i h p l = rw (cut_more w z p l)

  head_length : (h p : List ℕ) → length h ≡ w → length (xor (take w p) h) ≡ min w (length p)
  head_length h p l = length-xor (take w p) h ∙ simp length-take (omega arith)

  -- where a block follows, this one is full
  next_length : (i : ℕ) (h p : List ℕ) → length h ≡ w → 0 < length (drop w p) → length (next i h (take w p)) ≡ w
  next_length i h p l more = sized i h (take w p) l (let d = length-drop w p in simp length-take (omega arith))

  pub chain_length : (k i : ℕ) (h p : List ℕ) → length p ≤ k → (0 < length p → length h ≡ w) → length (chain next i h (cut w p)) ≡ length p
  chain_length k i h [] b l = rw (cut-nil w)
  chain_length zero i h (x ∷ xs) b l = absurd (not-suc-le-zero b)
  chain_length (suc k) i h (x ∷ xs) b l =
      let p = x ∷ xs in
      let pos : 0 < length p = omega arith in
      let lh : length h ≡ w = l pos in
      let d = length-drop w p in
      let r = chain_length k (suc i) (next i h (take w p)) (drop w p) (omega arith) (next_length i h p lh) in
      ap length (chain_cut i h p pos) ∙ length-append (xor (take w p) h) _ ∙ omega (arith, head_length h p lh)

  pub ended_length : (last : ℕ → List ℕ → List ℕ → List ℕ) → ((i : ℕ) (h p : List ℕ) → length h ≡ w → length p ≤ w → length (last i h p) ≡ w) → (k i : ℕ) (h p : List ℕ) → length p ≤ k → length h ≡ w → length (ended next last i h (cut w p)) ≡ w
  ended_length last f k i h [] b l = rw (cut-nil w) l
  ended_length last f zero i h (x ∷ xs) b l = absurd (not-suc-le-zero b)
  ended_length last f (suc k) i h (x ∷ xs) b l =
      let p = x ∷ xs in
      let pos : 0 < length p = omega arith in
      let d = length-drop w p in
      elim (leb_tells (length p) w) [
        | inl t ↦ let short = t.1 in rw (cut_last w z p pos short) (f i h p l short)
        | inr t ↦
            let long = t.1 in
            let more : 0 < length (drop w p) = omega arith in
            rw (cut_more w z p pos, cut_more w z (drop w p) more)
            (rw (cut_more w z (drop w p) more) at (ended_length last f k (suc i) (next i h (take w p)) (drop w p) (omega arith) (next_length i h p l more)))
      ]

  pub chain_same : (k i : ℕ) (h p q : List ℕ) → length p ≤ k → (0 < length p → length h ≡ w) → length p ≡ length q → chain next i h (cut w p) ≡ chain next i h (cut w q) → p ≡ q
  chain_same k i h [] q b l m e = sym (nil_from_length q (sym m))
  chain_same zero i h (x ∷ xs) q b l m e = absurd (not-suc-le-zero b)
  chain_same (suc k) i h (x ∷ xs) q b l m e =
      let p = x ∷ xs in
      let lh : length h ≡ w = l (omega arith) in
      let e' = sym (chain_cut i h p (omega arith)) ∙ e ∙ chain_cut i h q (omega arith) in
      let hp = head_length h p lh in
      let hq = head_length h q lh in
      let tp = length-take w p in
      let tq = length-take w q in
      let dp = length-drop w p in
      let dq = length-drop w q in
      let lens : length (xor (take w p) h) ≡ length (xor (take w q) h) = omega arith in
      let heads = front_same (xor (take w p) h) (xor (take w q) h) _ _ lens e' in
      let t : take w p ≡ take w q = xor_same (take w p) (take w q) h (omega arith) (omega arith) heads in
      let tails = back_same (xor (take w p) h) (xor (take w q) h) _ _ lens e' in
      let n : next i h (take w q) ≡ next i h (take w p) = ap (next i h) (sym t) in
      let d : drop w p ≡ drop w q = chain_same k (suc i) (next i h (take w p)) (drop w p) (drop w q) (omega arith) (next_length i h p lh) (omega arith) (tails ∙ ap (λ s. chain next (suc i) s (cut w (drop w q))) n) in
      sym (take-append-drop w p) ∙ rw (t, d) (take-append-drop w q)

module _ (w : ℕ) (z : 0 < w) (F : List ℕ → List ℕ → List ℕ) (sized : (h m : List ℕ) → length h ≡ w → length m ≡ w → length (F h m) ≡ w) where
  hashed_length : (m b : List ℕ) → length m ≡ w → length b ≡ 2 * w → length (hashed w F m b) ≡ w
  hashed_length m b e f =
      let t = length-take w b in
      sized (xor (take w b) m) (drop w b) (length-xor (take w b) m ∙ omega arith) (length-drop w b ∙ omega arith)

  pub closed_length : (m : Bool → List ℕ) (b : List ℕ) → ((short : Bool) → length (m short) ≡ w) → length (closed w F m b) ≡ w
  closed_length m b f = hashed_length (m (ltb (length b) (2 * w))) (padded (2 * w) b) (f (ltb (length b) (2 * w))) (length-padded (2 * w) b)

  pub tally_length : (D : ℕ → List ℕ) → ((i : ℕ) → length (D i) ≡ w) → (close : ℕ → List ℕ → List ℕ → List ℕ) → ((i : ℕ) (acc b : List ℕ) → length acc ≡ w → length (close i acc b) ≡ w) → (k i : ℕ) (acc a : List ℕ) → length a ≤ k → length acc ≡ w → length (tally w F D close i acc (cut (2 * w) a)) ≡ w
  tally_length D g close f k i acc [] b l = rw (cut-nil (2 * w)) l
  tally_length D g close f zero i acc (x ∷ xs) b l = absurd (not-suc-le-zero b)
  tally_length D g close f (suc k) i acc (x ∷ xs) b l =
      let a = x ∷ xs in
      let pos : 0 < length a = omega arith in
      let two : 0 < 2 * w = omega arith in
      let d = length-drop (2 * w) a in
      elim (leb_tells (length a) (2 * w)) [
        | inl t ↦ let short = t.1 in rw (cut_last (2 * w) two a pos short) (f i acc a l)
        | inr t ↦
            let long = t.1 in
            let more : 0 < length (drop (2 * w) a) = omega arith in
            let full : length (take (2 * w) a) ≡ 2 * w = simp length-take (omega arith) in
            let h = hashed_length (D i) (take (2 * w) a) (g i) full in
            let l' : length (xor acc (hashed w F (D i) (take (2 * w) a))) ≡ w = length-xor acc (hashed w F (D i) (take (2 * w) a)) ∙ omega arith in
            rw (cut_more (2 * w) two a pos, cut_more (2 * w) two (drop (2 * w) a) more)
            (rw (cut_more (2 * w) two (drop (2 * w) a) more) at (tally_length D g close f k (suc i) (xor acc (hashed w F (D i) (take (2 * w) a))) (drop (2 * w) a) (omega arith) l'))
      ]
