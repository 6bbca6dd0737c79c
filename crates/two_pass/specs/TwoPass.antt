-- Serial and counter over a compression function F of width w with feedback number fb: what both share, then the two keystreams, then the body.
use Rattle.std.specs.Prelude.{ℕ, suc, ◌*◌, ◌/◌, ◌%◌, cond, List, [], ◌∷◌, ◌++◌, take, ◌==◌}
use Rattle.base.specs.Bytes.{xor, zeros, padded, filled, digits, double, doubled, cut}
use Rattle.frames.specs.Chain.{chain, fed, tally, closed}
use Rattle.frames.specs.Offsets.{delta, star}
use Rattle.two_pass.specs.declared.keystream.Keystream.{Keystream}
use Rattle.two_pass.specs.declared.keystream.Keystream.TheVariants.{Serial, Counter}

-- acc ⊕ x where j is odd, else acc
abbrev pub add_odd : ℕ → List ℕ → List ℕ → List ℕ
add_odd j x acc = cond (j % 2 == 1) (xor acc x) acc

-- j·l, for j below 8: 4·l, 2·l and l, summed by the bits of j
unfoldable pub times : ℕ → ℕ → List ℕ → ℕ → List ℕ
times w fb l j = add_odd j l (add_odd (j / 2) (double fb l) (add_odd (j / 4) (doubled fb 2 l) (zeros w)))

-- the blocks of a page for its tag: an empty page is one short block
abbrev pub page_blocks : ℕ → List ℕ → List (List ℕ)
page_blocks w [] = [] ∷ []
page_blocks w (x ∷ xs) = cut (2 * w) (x ∷ xs)

module _ (w fb : ℕ) (F : List ℕ → List ℕ → List ℕ) where
  -- L[i]: L[0] is 8·L*, and each is twice the one before
  abbrev pub entry : ℕ → List ℕ
  entry i = doubled fb i (doubled fb 3 (star w F))

  -- D(0) under the nonce n: here alone stands what F takes beside the nonce
  abbrev pub nonce_offset : List ℕ → List ℕ
  nonce_offset n = F (padded w n) (zeros w)

  -- all that follows stands under D(0), which is d
  module _ (d : List ℕ) where
    -- the mask of kind j and index i: D(i) ⊕ j·L*
    abbrev pub mask : ℕ → ℕ → List ℕ
    mask j i = xor (delta entry d i) (times w fb (star w F) j)

    -- the associated data's part of S: kind 1, the last block 3 if it is full and 5 if it is short; no associated data has no block
    unfoldable pub ad_sum : List ℕ → List ℕ
    ad_sum a = tally w F (mask 1) (λ i sum b. xor sum (closed w F (λ short. mask (cond short 5 3) i) b)) 1 (zeros w) (cut (2 * w) a)

    -- the block whose first bytes are the tag, where s is the associated data's part of S: kind 0 adds to S, then the last block goes under S and kind 2 if it is full, 4 if it is short
    unfoldable pub tag_block : List ℕ → List ℕ → List ℕ
    tag_block s p = tally w F (mask 0) (λ i sum b. closed w F (λ short. xor sum (mask (cond short 4 2) i)) b) 1 s (page_blocks w p)

    abbrev pub tag : ℕ → List ℕ → List ℕ → List ℕ
    tag tau a p = take tau (tag_block (ad_sum a) p)

    -- F(V ⊕ mask of kind 6 and index i, ⟨8τ⟩): of the index, V and τ alone
    abbrev pub from_tag : ℕ → List ℕ → ℕ → List ℕ
    from_tag tau v i = F (xor v (mask 6 i)) (digits w (8 * tau))

    -- H(i+1), where H(i) is h and P(i) is p
    abbrev pub next : Keystream → ℕ → List ℕ → ℕ → List ℕ → List ℕ → List ℕ
    next Serial tau v i h p = fed F (mask 6) i h p
    next Counter tau v i h p = from_tag tau v (suc i)

    -- all C(i) of page p, where H(1) is the same in both modes; an empty page has none
    unfoldable pub cipher : Keystream → ℕ → List ℕ → List ℕ → List ℕ
    cipher k tau v p = chain (next k tau v) 1 (from_tag tau v 1) (cut w p)

    -- the tag, then all C(i), where V is the tag filled with zeros
    unfoldable pub body : Keystream → ℕ → List ℕ → List ℕ → List ℕ
    body k tau a p = tag tau a p ++ cipher k tau (filled w (tag tau a p)) p

  -- the body of page p under nonce n and associated data a, with a tag of tau bytes
  abbrev pub sealed : Keystream → ℕ → List ℕ → List ℕ → List ℕ → List ℕ
  sealed k tau n a p = body (nonce_offset n) k tau a p
