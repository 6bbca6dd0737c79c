-- OMD over a compression function F of width w with feedback number fb.
use Rattle.std.specs.Prelude.{ℕ, ◌-◌, ◌*◌, Bool, cond, List, ◌++◌, length, take, nat_lt}
use Rattle.base.specs.Bytes.{xor, zeros, padded, digits, double, doubled, cut}
use Rattle.frames.specs.Chain.{chain, ended, fed, tally, closed}
use Rattle.frames.specs.Offsets.{delta, star}

module _ (w fb : ℕ) (F : List ℕ → List ℕ → List ℕ) where
  -- L[i]: L[0] is 4·L*, and each is twice the one before
  abbrev pub entry : ℕ → List ℕ
  entry i = doubled fb i (doubled fb 2 (star w F))

  -- D(0) under the nonce n
  abbrev pub nonce_offset : List ℕ → List ℕ
  nonce_offset n = F (padded w n) (zeros w)

  -- H(1), where D(0) is d
  abbrev pub first : ℕ → List ℕ → List ℕ
  first tau d = F (delta entry d 1) (digits w (8 * tau))

  -- F of the last page block p, where its H is h and its D is m: 3·L* goes in for a short block, 2·L* for a full one
  abbrev pub ending : List ℕ → List ℕ → List ℕ → List ℕ → List ℕ
  ending l m h p = F (xor (xor h m) (cond (nat_lt (length p) w) (xor (double fb l) l) (double fb l))) (padded w p)

  -- all C(i), and Te, of page p, where D(0) is d and H(1) is h; an empty page has no block, and its Te is h
  abbrev pub cipher_from : List ℕ → List ℕ → List ℕ → List ℕ
  cipher_from d h p = chain (fed F (delta entry d)) 1 h (cut w p)

  abbrev pub tag_from : List ℕ → List ℕ → List ℕ → List ℕ
  tag_from d h p = ended (fed F (delta entry d)) (λ i k q. ending (star w F) (delta entry d i) k q) 1 h (cut w p)

  -- B(i)
  abbrev pub ad_offset : ℕ → List ℕ
  ad_offset i = delta entry (zeros w) i

  -- the offset of the last block of associated data, the i-th
  abbrev pub ad_last : ℕ → Bool → List ℕ
  ad_last i short = cond short (xor (ad_offset (i - 1)) (star w F)) (ad_offset i)

  -- Ta: zeros where there is no associated data
  unfoldable pub ad_tag : List ℕ → List ℕ
  ad_tag a = tally w F ad_offset (λ i acc b. xor acc (closed w F (ad_last i) b)) 1 (zeros w) (cut (2 * w) a)

  unfoldable pub cipher : ℕ → List ℕ → List ℕ → List ℕ
  cipher tau n p = cipher_from (nonce_offset n) (first tau (nonce_offset n)) p

  -- Te
  unfoldable pub page_tag : ℕ → List ℕ → List ℕ → List ℕ
  page_tag tau n p = tag_from (nonce_offset n) (first tau (nonce_offset n)) p

  abbrev pub tag : ℕ → List ℕ → List ℕ → List ℕ → List ℕ
  tag tau n a p = take tau (xor (page_tag tau n p) (ad_tag a))

  -- the body of page p under nonce n and associated data a, with a tag of tau bytes
  unfoldable pub sealed : ℕ → List ℕ → List ℕ → List ℕ → List ℕ
  sealed tau n a p = cipher tau n p ++ tag tau n a p
