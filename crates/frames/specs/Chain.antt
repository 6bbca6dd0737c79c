-- A page under a chain of values, and sums over blocks of two halves.
use Rattle.std.specs.Prelude.{ℕ, suc, ◌*◌, Bool, List, [], ◌∷◌, ◌++◌, length, take, drop, nat_lt}
use Rattle.base.specs.Bytes.{xor, padded}

-- block C(i) is P(i) ⊕ H(i), and H(i+1) is `next` of i, H(i) and P(i)
module _ (next : ℕ → List ℕ → List ℕ → List ℕ) where
  -- the blocks from the i-th on, where H(i) is h
  abbrev pub chain : ℕ → List ℕ → List (List ℕ) → List ℕ
  chain i h [] = []
  chain i h (p ∷ ps) = xor p h ++ chain (suc i) (next i h p) ps

  -- `last` of the last block's index, H and text; h where there is no block
  abbrev pub ended : (ℕ → List ℕ → List ℕ → List ℕ) → ℕ → List ℕ → List (List ℕ) → List ℕ
  ended last i h [] = h
  ended last i h (p ∷ []) = last i h p
  ended last i h (p ∷ (q ∷ ps)) = ended last (suc i) (next i h p) (q ∷ ps)

-- H(i+1) is F(H(i) ⊕ D(i+1), P(i))
abbrev pub fed : (List ℕ → List ℕ → List ℕ) → (ℕ → List ℕ) → ℕ → List ℕ → List ℕ → List ℕ
fed F D i h p = F (xor h (D (suc i))) p

module _ (w : ℕ) (F : List ℕ → List ℕ → List ℕ) where
  -- F(left ⊕ m, right) of a block of 2w bytes
  abbrev pub hashed : List ℕ → List ℕ → List ℕ
  hashed m b = F (xor (take w b) m) (drop w b)

  -- of the last block: the offset is by whether it is short, and a short one is padded
  abbrev pub closed : (Bool → List ℕ) → List ℕ → List ℕ
  closed m b = hashed (m (nat_lt (length b) (2 * w))) (padded (2 * w) b)

  -- the sum over all blocks but the last, from the i-th on; then `close` of the last one's index, the sum and the block; the sum where there is no block
  abbrev pub tally : (ℕ → List ℕ) → (ℕ → List ℕ → List ℕ → List ℕ) → ℕ → List ℕ → List (List ℕ) → List ℕ
  tally D close i acc [] = acc
  tally D close i acc (b ∷ []) = close i acc b
  tally D close i acc (b ∷ (c ∷ bs)) = tally D close (suc i) (xor acc (hashed (D i) b)) (c ∷ bs)
