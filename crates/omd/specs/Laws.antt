-- A body has the page's length and the tag's, and tells its page.
use Rattle.std.specs.Prelude.{◌≡◌, ℕ, suc, ◌+◌, ◌-◌, ◌*◌, ◌<◌, ◌≤◌, Bool, true, false, cond, List, ◌++◌, length, take, drop, nat_lt}
use Rattle.std.proofs.Math.Path.{sym, ap, ap₂}
use Rattle.std.proofs.Common.{◌∙◌, arith}
use borrow.Rule.Slice.PartMut.{put_mid, post_of}
use Rattle.std.proofs.lemmas.List.{length-replicate, length-take, length-drop, length-append, take_at, drop_at, take-append-drop}
use Rattle.base.specs.Bytes.{xor, zeros, padded, digits, double, doubled}
use Rattle.base.proofs.Doubles.{length-double, length-doubled}
use Rattle.base.proofs.Numbers.{length-digits}
use Rattle.base.proofs.Pads.{length-padded}
use Rattle.base.proofs.Parts.{from_zero, put_end}
use Rattle.base.proofs.Xors.{length-xor}
use Rattle.frames.specs.Chain.{fed, closed}
use Rattle.frames.specs.Offsets.{delta, star}
use Rattle.frames.proofs.Laws.{front_same, length-delta, chain_length, ended_length, chain_same, closed_length, tally_length}
use Rattle.omd.specs.Omd.{entry, nonce_offset, first, ending, cipher, page_tag, ad_offset, ad_last, ad_tag, tag, sealed}

module _ (w fb : ℕ) (z : 0 < w) (F : List ℕ → List ℕ → List ℕ) (sized : (h m : List ℕ) → length h ≡ w → length m ≡ w → length (F h m) ≡ w) where
  length-zeros : length (zeros w) ≡ w
  length-zeros = length-replicate {A = ℕ} w 0

  length-star : length (star w F) ≡ w
  length-star = sized (zeros w) (zeros w) length-zeros length-zeros

  length-entry : (k : ℕ) → length (entry w fb F k) ≡ w
  length-entry k = length-doubled fb k (doubled fb 2 (star w F)) ∙ length-doubled fb 2 (star w F) ∙ length-star

  -- the offset of the last page block
  length-ending : (short : Bool) → length (cond short (xor (double fb (star w F)) (star w F)) (double fb (star w F))) ≡ w
  length-ending true = let d = length-double fb (star w F) in length-xor (double fb (star w F)) (star w F) ∙ omega (arith, length-star)
  length-ending false = length-double fb (star w F) ∙ length-star

  module _ (d : List ℕ) (ld : length d ≡ w) where
    length-offset : (i : ℕ) → length (delta (entry w fb F) d i) ≡ w
    length-offset = length-delta (entry w fb F) d w ld length-entry

    fed_length : (i : ℕ) (h p : List ℕ) → length h ≡ w → length p ≡ w → length (fed F (delta (entry w fb F) d) i h p) ≡ w
    fed_length i h p lh lp = sized _ p (length-xor h (delta (entry w fb F) d (suc i)) ∙ omega (arith, length-offset (suc i))) lp

    ending_length : (i : ℕ) (h p : List ℕ) → length h ≡ w → length p ≤ w → length (ending w fb F (star w F) (delta (entry w fb F) d i) h p) ≡ w
    ending_length i h p lh lp =
        let k = cond (nat_lt (length p) w) (xor (double fb (star w F)) (star w F)) (double fb (star w F)) in
        let hd = length-xor h (delta (entry w fb F) d i) in
        sized _ (padded w p) (length-xor (xor h (delta (entry w fb F) d i)) k ∙ omega (arith, length-offset i, length-ending (nat_lt (length p) w))) (length-padded w p)

    first_length : (tau : ℕ) → length (first w fb F tau d) ≡ w
    first_length tau = sized (delta (entry w fb F) d 1) (digits w (8 * tau)) (length-offset 1) (length-digits w (8 * tau))

  length-nonce : (n : List ℕ) → length (nonce_offset w fb F n) ≡ w
  length-nonce n = sized (padded w n) (zeros w) (length-padded w n) length-zeros

  length-ad_last : (i : ℕ) (short : Bool) → length (ad_last w fb F i short) ≡ w
  length-ad_last i true = length-xor (ad_offset w fb F (i - 1)) (star w F) ∙ omega (arith, length-offset (zeros w) length-zeros (i - 1), length-star)
  length-ad_last i false = length-offset (zeros w) length-zeros i

  ad_tag_length : (a : List ℕ) → length (ad_tag w fb F a) ≡ w
  unfolding ad_tag
  ad_tag_length a =
      tally_length w z F sized (ad_offset w fb F) (length-offset (zeros w) length-zeros) (λ i acc b. xor acc (closed w F (ad_last w fb F i) b))
      (λ i acc b l. length-xor acc (closed w F (ad_last w fb F i) b) ∙ omega (arith, closed_length w z F sized (ad_last w fb F i) b (length-ad_last i)))
      (length a) 1 (zeros w) a (omega arith) length-zeros

  module _ (tau : ℕ) (few : tau ≤ w) (n : List ℕ) where
    pub cipher_length : (p : List ℕ) → length (cipher w fb F tau n p) ≡ length p
    unfolding cipher
    cipher_length p =
        let d = nonce_offset w fb F n in
        chain_length w z (fed F (delta (entry w fb F) d)) (fed_length d (length-nonce n)) (length p) 1 (first w fb F tau d) p (omega arith) (λ _. first_length d (length-nonce n) tau)

    pub page_tag_length : (p : List ℕ) → length (page_tag w fb F tau n p) ≡ w
    unfolding page_tag
    page_tag_length p =
        let d = nonce_offset w fb F n in
        ended_length w z (fed F (delta (entry w fb F) d)) (fed_length d (length-nonce n)) (λ i k q. ending w fb F (star w F) (delta (entry w fb F) d i) k q) (ending_length d (length-nonce n)) (length p) 1 (first w fb F tau d) p (omega arith) (first_length d (length-nonce n) tau)

    tag_length : (a p : List ℕ) → length (tag w fb F tau n a p) ≡ tau
    tag_length a p =
        let x = length-xor (page_tag w fb F tau n p) (ad_tag w fb F a) in
        length-take tau (xor (page_tag w fb F tau n p) (ad_tag w fb F a)) ∙ omega (arith, page_tag_length p, ad_tag_length a)

    pub sealed_length : (a p : List ℕ) → length (sealed w fb F tau n a p) ≡ length p + tau
    unfolding sealed
    sealed_length a p = length-append (cipher w fb F tau n p) (tag w fb F tau n a p) ∙ omega (arith, cipher_length p, tag_length a p)

    cipher_same : (p q : List ℕ) → length p ≡ length q → cipher w fb F tau n p ≡ cipher w fb F tau n q → p ≡ q
    unfolding cipher
    cipher_same p q l c =
        let d = nonce_offset w fb F n in
        chain_same w z (fed F (delta (entry w fb F) d)) (fed_length d (length-nonce n)) (length p) 1 (first w fb F tau d) p q (omega arith) (λ _. first_length d (length-nonce n) tau) l c

    -- a body tells its page
    pub sealed_same : (a p q : List ℕ) → sealed w fb F tau n a p ≡ sealed w fb F tau n a q → p ≡ q
    unfolding sealed
    sealed_same a p q e =
        let l : length p ≡ length q = omega (arith, ap length e, sealed_length a p, sealed_length a q) in
        cipher_same p q l (front_same (cipher w fb F tau n p) (cipher w fb F tau n q) _ _ (cipher_length p ∙ l ∙ sym (cipher_length q)) e)

    -- where q's ciphertext is the front of a body, a page that seals to the body is q
    opens_only : (a p q body : List ℕ) → cipher w fb F tau n q ≡ take (length q) body → length body ≡ length q + tau → sealed w fb F tau n a p ≡ body → sealed w fb F tau n a q ≡ body
    unfolding sealed
    opens_only a p q body c l e =
        let lp : length p ≡ length q = omega (arith, ap length e, sealed_length a p) in
        let cp : cipher w fb F tau n p ≡ cipher w fb F tau n q = sym (take_at (cipher w fb F tau n p) (tag w fb F tau n a p) (length q) (cipher_length p ∙ lp)) ∙ ap (take (length q)) e ∙ sym c in
        ap (λ t. cipher w fb F tau n t ++ tag w fb F tau n a t) (sym (cipher_same p q lp cp)) ∙ e

    -- what sealing writes: the ciphertext into the front of old, then the tag
    pub sealed_is : (a page old ct block part : List ℕ) → length old ≡ length page + tau → ct ≡ cipher w fb F tau n page → block ≡ xor (page_tag w fb F tau n page) (ad_tag w fb F a) → part ≡ take (length (take (length old - length page) (drop (length page) (ct ++ post_of 0 (length page - 0) old)))) block → put_mid (length page) (length old - length page) (ct ++ post_of 0 (length page - 0) old) part ≡ sealed w fb F tau n a page
    unfolding sealed
    sealed_is a page old ct block part l c e p =
        let lc : length ct ≡ length page = ap length c ∙ cipher_length page in
        let d = length-drop (length page - 0) old in
        let la : length (ct ++ post_of 0 (length page - 0) old) ≡ length page + tau = simp (length-append, length-drop) (omega arith) in
        let k : length (take (length old - length page) (drop (length page) (ct ++ post_of 0 (length page - 0) old))) ≡ tau = simp (length-take, length-drop) (omega arith) in
        put_end (length page) (length old - length page) (ct ++ post_of 0 (length page - 0) old) part (omega arith)
        ∙ ap (λ t. t ++ part) (take_at ct (post_of 0 (length page - 0) old) (length page) lc)
        ∙ ap₂ (λ x y. x ++ y) c (p ∙ ap₂ (λ i t. take i t) k e)

    -- the same of two parts that were written apart: the ciphertext, and then the tag
    pub sealed_parts : (a page ct block part : List ℕ) → ct ≡ cipher w fb F tau n page → block ≡ xor (page_tag w fb F tau n page) (ad_tag w fb F a) → part ≡ take tau block → ct ++ part ≡ sealed w fb F tau n a page
    sealed_parts a page ct block part c e p =
        let old = ct ++ part in
        let post = post_of 0 (length page - 0) old in
        let lc : length ct ≡ length page = ap length c ∙ cipher_length page in
        let lp : length part ≡ tau = ap length (p ∙ ap (take tau) e) ∙ tag_length a page in
        let l : length old ≡ length page + tau = length-append ct part ∙ omega arith in
        let la : length (ct ++ post) ≡ length page + tau = simp (length-append, length-drop) (omega arith) in
        let k : length (take (length old - length page) (drop (length page) (ct ++ post))) ≡ tau = simp (length-take, length-drop) (omega arith) in
        sym (put_end (length page) (length old - length page) (ct ++ post) part (omega arith) ∙ ap (λ t. t ++ part) (take_at ct post (length page) lc))
        ∙ sealed_is a page old ct block part l c e (p ∙ ap (λ i. take i block) (sym k))

    -- a page was recovered from the front of a body, and `block` begins with its tag
    module _ (a : List ℕ) (k : ℕ) (body page block : List ℕ) (ek : k ≡ length page) (l : length body ≡ k + tau) (c : take (k - 0) body ≡ cipher w fb F tau n page) (e : block ≡ xor (page_tag w fb F tau n page) (ad_tag w fb F a)) where
      back : length body - tau ≡ k
      back = omega arith

      pub tells : take tau block ≡ drop (length body - tau) body → sealed w fb F tau n a page ≡ body
      unfolding sealed
      tells f =
          let g : take tau block ≡ drop k body = f ∙ ap (λ j. drop j body) back in
          ap₂ (λ x y. x ++ y) (sym c ∙ ap (λ j. take j body) (from_zero k)) (ap (take tau) (sym e) ∙ g) ∙ take-append-drop k body

      pub only : (p : List ℕ) → sealed w fb F tau n a p ≡ body → take tau block ≡ drop (length body - tau) body
      unfolding sealed
      only p s =
          let c' : cipher w fb F tau n page ≡ take (length page) body = sym c ∙ ap (λ j. take j body) (from_zero k ∙ ek) in
          let q : sealed w fb F tau n a page ≡ body = opens_only a p page body c' (omega arith) s in
          let d : drop k body ≡ tag w fb F tau n a page = ap (drop k) (sym q) ∙ drop_at (cipher w fb F tau n page) (tag w fb F tau n a page) k (cipher_length page ∙ sym ek) in
          ap (take tau) e ∙ sym d ∙ ap (λ j. drop j body) (sym back)
