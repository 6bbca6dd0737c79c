-- A body has the page's length and the tag's, and tells its page.
use Rattle.std.specs.Prelude.{◌≡◌, ℕ, suc, ◌+◌, ◌-◌, ◌*◌, ◌/◌, ◌%◌, ◌<◌, ◌≤◌, true, false, cond, List, [], ◌∷◌, ◌++◌, length, take, drop, ◌==◌}
use Rattle.std.proofs.Math.Path.{refl, sym, ap, ap₂}
use Rattle.std.proofs.Common.{◌∙◌, arith}
use borrow.Rule.Slice.PartMut.{put_mid, post_of}
use Rattle.std.proofs.lemmas.List.{length-take, length-drop, length-append, take_at, drop_at, take-append-drop}
use Rattle.base.specs.Bytes.{xor, zeros, padded, filled, digits}
use Rattle.base.proofs.Doubles.{length-double, length-doubled}
use Rattle.base.proofs.Numbers.{length-digits}
use Rattle.base.proofs.Pads.{length-filled, length-padded}
use Rattle.base.proofs.Parts.{from_zero, part_end, put_end}
use Rattle.base.proofs.Xors.{length-xor}
use Rattle.frames.specs.Chain.{closed}
use Rattle.frames.specs.Offsets.{delta, star}
use Rattle.frames.proofs.Laws.{length-zeros, length-star, length-entry, front_same, back_same, length-delta, chain_length, chain_same, closed_length, tally_length}
use Rattle.scheme.specs.Meaning.{mode}
use Rattle.scheme.specs.Recovery.{Recovered}
use Rattle.scheme.specs.declared.limits.End.TheVariants.{Front}
use Rattle.two_pass.specs.TwoPass.{add_odd, times, entry, nonce_offset, mask, ad_sum, tag_block, tag, from_tag, next, cipher, body, sealed}
use Rattle.two_pass.specs.declared.keystream.Keystream.{Keystream}
use Rattle.two_pass.specs.declared.keystream.Keystream.TheVariants.{Serial, Counter}

add_odd_length : (w j : ℕ) (x acc : List ℕ) → length x ≡ w → length acc ≡ w → length (add_odd j x acc) ≡ w
add_odd_length w j x acc lx la = elim (j % 2 == 1) as (λ b. length (cond b (xor acc x) acc) ≡ w) [ true ↦ length-xor acc x ∙ omega arith | false ↦ la ]

module _ (w fb : ℕ) (z : 0 < w) (F : List ℕ → List ℕ → List ℕ) (sized : (h m : List ℕ) → length h ≡ w → length m ≡ w → length (F h m) ≡ w) where
  length-times : (j : ℕ) → length (times w fb (star w F) j) ≡ w
  unfolding times
  length-times j = add_odd_length w j _ _ (length-star w F sized) (add_odd_length w (j / 2) _ _ (length-double fb (star w F) ∙ length-star w F sized) (add_odd_length w (j / 4) _ _ (length-doubled fb 2 (star w F) ∙ length-star w F sized) (length-zeros w)))

  pub length-nonce : (n : List ℕ) → length (nonce_offset w fb F n) ≡ w
  length-nonce n = sized (padded w n) (zeros w) (length-padded w n) (length-zeros w)

  module _ (d : List ℕ) (ld : length d ≡ w) where
    length-mask : (j i : ℕ) → length (mask w fb F d j i) ≡ w
    length-mask j i = length-xor (delta (entry w fb F) d i) (times w fb (star w F) j) ∙ omega (arith, length-delta (entry w fb F) d w ld (length-entry w F sized fb 3) i, length-times j)

    ad_sum_length : (a : List ℕ) → length (ad_sum w fb F d a) ≡ w
    unfolding ad_sum
    ad_sum_length a =
        tally_length w z F sized (mask w fb F d 1) (length-mask 1) (λ i s b. xor s (closed w F (λ short. mask w fb F d (cond short 5 3) i) b))
        (λ i s b l. length-xor s (closed w F (λ short. mask w fb F d (cond short 5 3) i) b) ∙ omega (arith, closed_length w z F sized (λ short. mask w fb F d (cond short 5 3) i) b (λ short. length-mask (cond short 5 3) i)))
        (length a) 1 (zeros w) a (omega arith) (length-zeros w)

    -- the last page block
    last_length : (i : ℕ) (s b : List ℕ) → length s ≡ w → length (closed w F (λ short. xor s (mask w fb F d (cond short 4 2) i)) b) ≡ w
    last_length i s b l = closed_length w z F sized (λ short. xor s (mask w fb F d (cond short 4 2) i)) b (λ short. length-xor s (mask w fb F d (cond short 4 2) i) ∙ omega (arith, length-mask (cond short 4 2) i))

    tag_block_length : (s p : List ℕ) → length s ≡ w → length (tag_block w fb F d s p) ≡ w
    unfolding tag_block
    tag_block_length s [] l = last_length 1 s [] l
    tag_block_length s (x ∷ xs) l =
        tally_length w z F sized (mask w fb F d 0) (length-mask 0) (λ i s b. closed w F (λ short. xor s (mask w fb F d (cond short 4 2) i)) b) last_length (length (x ∷ xs)) 1 s (x ∷ xs) (omega arith) l

    from_tag_length : (tau : ℕ) (v : List ℕ) (i : ℕ) → length v ≡ w → length (from_tag w fb F d tau v i) ≡ w
    from_tag_length tau v i l = sized _ (digits w (8 * tau)) (length-xor v (mask w fb F d 6 i) ∙ omega (arith, length-mask 6 i)) (length-digits w (8 * tau))

    next_length : (k : Keystream) (tau : ℕ) (v : List ℕ) → length v ≡ w → (i : ℕ) (h p : List ℕ) → length h ≡ w → length p ≡ w → length (next w fb F d k tau v i h p) ≡ w
    next_length Serial tau v l i h p lh lp = sized _ p (length-xor h (mask w fb F d 6 (suc i)) ∙ omega (arith, length-mask 6 (suc i))) lp
    next_length Counter tau v l i h p lh lp = from_tag_length tau v (suc i) l

    module _ (k : Keystream) (tau : ℕ) (few : tau ≤ w) where
      cipher_length : (v p : List ℕ) → length v ≡ w → length (cipher w fb F d k tau v p) ≡ length p
      unfolding cipher
      cipher_length v p l = chain_length w z (next w fb F d k tau v) (next_length k tau v l) (length p) 1 (from_tag w fb F d tau v 1) p (omega arith) (λ _. from_tag_length tau v 1 l)

      -- under one V a ciphertext tells its page
      cipher_same : (v p q : List ℕ) → length v ≡ w → cipher w fb F d k tau v p ≡ cipher w fb F d k tau v q → p ≡ q
      unfolding cipher
      cipher_same v p q l e =
          let n : length p ≡ length q = sym (cipher_length v p l) ∙ ap length e ∙ cipher_length v q l in
          chain_same w z (next w fb F d k tau v) (next_length k tau v l) (length p) 1 (from_tag w fb F d tau v 1) p q (omega arith) (λ _. from_tag_length tau v 1 l) n e

      tag_long : (a p : List ℕ) → length (tag w fb F d tau a p) ≡ tau
      tag_long a p = length-take tau (tag_block w fb F d (ad_sum w fb F d a) p) ∙ omega (arith, tag_block_length (ad_sum w fb F d a) p (ad_sum_length a))

      pub body_long : (a p : List ℕ) → length (body w fb F d k tau a p) ≡ length p + tau
      unfolding body
      body_long a p =
          let v = filled w (tag w fb F d tau a p) in
          length-append (tag w fb F d tau a p) (cipher w fb F d k tau v p) ∙ omega (arith, tag_long a p, cipher_length v p (length-filled w (tag w fb F d tau a p)))

      -- equal bodies have equal tags, so one V
      pub body_same : (a p q : List ℕ) → body w fb F d k tau a p ≡ body w fb F d k tau a q → p ≡ q
      unfolding body
      body_same a p q e =
          let t = tag w fb F d tau a p in
          let u = tag w fb F d tau a q in
          let l : length t ≡ length u = tag_long a p ∙ sym (tag_long a q) in
          let m : t ≡ u = front_same t u _ _ l e in
          cipher_same (filled w t) p q (length-filled w t) (back_same t u _ _ l e ∙ ap (λ x. cipher w fb F d k tau (filled w x) q) (sym m))

      -- the tag was written into the front of old, then the ciphertext
      body_is : (a page old block v part ct : List ℕ) (t : ℕ) → t ≡ tau → length old ≡ length page + t
          → block ≡ tag_block w fb F d (ad_sum w fb F d a) page → v ≡ filled w (take (t - 0) block) → part ≡ take (length (take (t - 0) old)) block → ct ≡ cipher w fb F d k tau v page
          → put_mid t (length old - t) (part ++ post_of 0 (t - 0) old) ct ≡ body w fb F d k tau a page
      unfolding body
      body_is a page old block v part ct t et l em ev ep ec =
          let n : length (take (t - 0) old) ≡ tau = simp length-take (omega arith) in
          let mk : part ≡ tag w fb F d tau a page = ep ∙ ap₂ (λ i x. take i x) n em in
          let lp : length part ≡ t = ap length mk ∙ tag_long a page ∙ sym et in
          let la : length (part ++ post_of 0 (t - 0) old) ≤ t + (length old - t) = simp (length-append, length-drop) (omega arith) in
          let v-is : v ≡ filled w (tag w fb F d tau a page) = ev ∙ ap (filled w) (ap₂ (λ i x. take i x) (from_zero t ∙ et) em) in
          put_end t (length old - t) (part ++ post_of 0 (t - 0) old) ct la ∙ ap₂ (λ x y. x ++ y) (take_at part (post_of 0 (t - 0) old) t lp ∙ mk) (ec ∙ ap (λ x. cipher w fb F d k tau x page) v-is)

      -- a page was recovered from behind the tag of a body, and `block` begins with the page's tag
      module _ (a whole page block v : List ℕ) (t : ℕ) (et : t ≡ tau) (l : length whole ≡ length page + t) (em : block ≡ tag_block w fb F d (ad_sum w fb F d a) page)
          (ev : v ≡ filled w (take (t - 0) whole)) (c : take (length whole - t) (drop t whole) ≡ cipher w fb F d k tau v page) where
        front_is : take (t - 0) whole ≡ take tau whole
        front_is = ap (λ i. take i whole) (from_zero t ∙ et)

        back_is : drop tau whole ≡ cipher w fb F d k tau v page
        back_is = ap (λ i. drop i whole) (sym et) ∙ sym (part_end t (length whole - t) whole (omega arith)) ∙ c

        v_long : length v ≡ w
        v_long = ap length ev ∙ length-filled w (take (t - 0) whole)

        tells : take tau block ≡ take tau whole → body w fb F d k tau a page ≡ whole
        unfolding body
        tells f =
            let mk : tag w fb F d tau a page ≡ take tau whole = ap (take tau) (sym em) ∙ f in
            ap₂ (λ x y. x ++ y) mk (ap (λ x. cipher w fb F d k tau x page) (ap (filled w) (mk ∙ sym front_is) ∙ sym ev) ∙ sym back_is) ∙ take-append-drop tau whole

        only : (p : List ℕ) → body w fb F d k tau a p ≡ whole → take tau block ≡ take tau whole
        unfolding body
        only p s =
            let t = tag w fb F d tau a p in
            let mk : t ≡ take tau whole = sym (take_at t _ tau (tag_long a p)) ∙ ap (take tau) s in
            let ct : cipher w fb F d k tau (filled w t) p ≡ drop tau whole = sym (drop_at t _ tau (tag_long a p)) ∙ ap (drop tau) s in
            let same : p ≡ page = cipher_same v p page v_long (ap (λ x. cipher w fb F d k tau x p) (ev ∙ ap (filled w) (front_is ∙ sym mk)) ∙ ct ∙ back_is) in
            ap (take tau) em ∙ ap (tag w fb F d tau a) (sym same) ∙ mk

  -- the same of runs: d is D(0) under the nonce n, and F goes by other names between the calls
  module _ (k : Keystream) (tau : ℕ) (few : tau ≤ w) (n a d : List ℕ) (ed : d ≡ nonce_offset w fb F n) (V1 V2 : List ℕ → List ℕ → List ℕ) (e1 : V1 ≡ F) (e2 : V2 ≡ F) (t u r : ℕ) (et : t ≡ tau) (eu : u ≡ w) (er : r ≡ tau) where
    ld : length d ≡ w
    ld = ap length ed ∙ length-nonce n

    pub seals : (page old block front v part ct : List ℕ) → length old ≡ length page + t
        → block ≡ tag_block w fb V1 d (ad_sum w fb V1 d a) page → front ≡ block → v ≡ filled u (take (t - 0) front) → part ≡ take (length (take (t - 0) old)) block → ct ≡ cipher w fb V2 d k r v page
        → put_mid t (length old - t) (part ++ post_of 0 (t - 0) old) ct ≡ sealed w fb F k tau n a page
    seals page old block front v part ct l em ef ev ep ec =
        let em' : block ≡ tag_block w fb F d (ad_sum w fb F d a) page = em ∙ ap (λ G. tag_block w fb G d (ad_sum w fb G d a) page) e1 in
        let ec' : ct ≡ cipher w fb F d k tau v page = ec ∙ ap₂ (λ G i. cipher w fb G d k i v page) e2 er in
        body_is d ld k tau few a page old block v part ct t et l em' (ev ∙ ap₂ (λ i x. filled i (take (t - 0) x)) eu ef) ep ec' ∙ ap (λ x. body w fb F x k tau a page) ed

    -- the same of two parts that were written apart: the tag, and then the ciphertext
    pub seals_parts : (page block v part ct : List ℕ)
        → block ≡ tag_block w fb V1 d (ad_sum w fb V1 d a) page → part ≡ take t block → v ≡ filled u part → ct ≡ cipher w fb V2 d k r v page
        → part ++ ct ≡ sealed w fb F k tau n a page
    seals_parts page block v part ct em ep ev ec =
        let old = part ++ ct in
        let post = post_of 0 (t - 0) old in
        let em' : block ≡ tag_block w fb F d (ad_sum w fb F d a) page = em ∙ ap (λ G. tag_block w fb G d (ad_sum w fb G d a) page) e1 in
        let ec' : ct ≡ cipher w fb F d k tau v page = ec ∙ ap₂ (λ G i. cipher w fb G d k i v page) e2 er in
        let lv : length v ≡ w = ap length ev ∙ length-filled u part ∙ eu in
        let lp : length part ≡ t = ap length (ep ∙ ap₂ (λ i x. take i x) et em') ∙ tag_long d ld k tau few a page ∙ sym et in
        let lc : length ct ≡ length page = ap length ec' ∙ cipher_length d ld k tau few v page lv in
        let l : length old ≡ length page + t = length-append part ct ∙ omega arith in
        let front : length (take (t - 0) old) ≡ t = simp length-take (omega arith) in
        let la : length (part ++ post) ≤ t + (length old - t) = simp (length-append, length-drop) (omega arith) in
        sym (put_end t (length old - t) (part ++ post) ct la ∙ ap (λ x. x ++ ct) (take_at part post t lp))
        ∙ seals page old block block v part ct l em refl (ev ∙ ap (filled u) (ep ∙ ap (λ i. take i block) (sym (from_zero t)))) (ep ∙ ap (λ i. take i block) (sym front)) ec

    pub recovers : (whole page block v : List ℕ) → length whole ≡ length page + t
        → v ≡ filled u (take (t - 0) whole) → take (length whole - t) (drop t whole) ≡ cipher w fb V1 d k r v page → block ≡ tag_block w fb V2 d (ad_sum w fb V2 d a) page
        → Recovered (mode tau Front (sealed w fb F k tau)) n a whole page block
    recovers whole page block v l ev ec em =
        let em' : block ≡ tag_block w fb F d (ad_sum w fb F d a) page = em ∙ ap (λ G. tag_block w fb G d (ad_sum w fb G d a) page) e2 in
        let ec' : take (length whole - t) (drop t whole) ≡ cipher w fb F d k tau v page = ec ∙ ap₂ (λ G i. cipher w fb G d k i v page) e1 er in
        let ev' : v ≡ filled w (take (t - 0) whole) = ev ∙ ap (λ i. filled i (take (t - 0) whole)) eu in
        record {
          tells = λ f. ap (λ x. body w fb F x k tau a page) (sym ed) ∙ tells d ld k tau few a whole page block v t et l em' ev' ec' f;
          only = λ p e. only d ld k tau few a whole page block v t et l em' ev' ec' p (ap (λ x. body w fb F x k tau a p) ed ∙ e);
        }
