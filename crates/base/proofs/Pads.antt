-- Padding, as the code writes it, and the halves of a padded block.
use Rattle.std.proofs.Common.{◌≡◌, ℕ, zero, suc, ◌+◌, ◌-◌, ◌*◌, ◌<◌, ◌≤◌, List, [], ◌∷◌, ◌++◌, length, take, drop, set, replicate, sym, refl, ap, ◌∙◌, arith, take-add}
use borrow.Rule.Slice.PartMut.{post_of}
use Rattle.std.proofs.lemmas.List.{take_at, drop_at, set_at, take-replicate, drop-replicate, length-replicate, append_assoc, replicate-append-replicate, take-append-drop, length-append, length-take}
use Rattle.base.specs.Bytes.{filled, padded, zeros}
use Rattle.base.proofs.Parts.{from_zero}

pub length-padded : (w : ℕ) (b : List ℕ) → length (padded w b) ≡ w
length-padded w b = length-take w (b ++ 0x80 ∷ zeros w) ∙ omega (arith, length-append b (0x80 ∷ zeros w), length-replicate {A = ℕ} w 0)

-- a full block stays as it is
pub padded_full : (w : ℕ) (b : List ℕ) → length b ≡ w → padded w b ≡ b
padded_full w b e = take_at b (0x80 ∷ zeros w) w e

-- zeros past the end do not count
enough : (n k m : ℕ) (b : List ℕ) → n ≤ k → n ≤ m → take n (b ++ 0x80 ∷ zeros k) ≡ take n (b ++ 0x80 ∷ zeros m)
enough zero k m b h l = refl
enough (suc n) k m [] h l = ap (λ t. 0x80 ∷ t) (take-replicate {X = ℕ} n k 0 (omega arith) ∙ sym (take-replicate {X = ℕ} n m 0 (omega arith)))
enough (suc n) k m (x ∷ xs) h l = ap (λ t. x ∷ t) (enough n k m xs (omega arith) (omega arith))

-- m zeros stand behind the 80
padded_as : (w m : ℕ) (b : List ℕ) → w ≡ length b + suc m → padded w b ≡ b ++ (0x80 ∷ replicate m 0)
padded_as w m b e =
    rw (e, take-add (length b) (suc m) (b ++ (0x80 ∷ replicate (length b + suc m) 0)), take_at b (0x80 ∷ replicate (length b + suc m) 0) (length b) refl, drop_at b (0x80 ∷ replicate (length b + suc m) 0) (length b) refl)
    (ap (λ t. b ++ (0x80 ∷ t)) (take-replicate {X = ℕ} m (length b + suc m) 0 (omega arith)))

-- zeros in w - length b places behind b
filled_as : (w m : ℕ) (b : List ℕ) → w ≡ length b + m → filled w b ≡ b ++ zeros m
unfolding filled
filled_as w m b e =
    rw (e, take-add (length b) m (b ++ zeros (length b + m)), take_at b (zeros (length b + m)) (length b) refl, drop_at b (zeros (length b + m)) (length b) refl)
    (ap (λ t. b ++ t) (take-replicate {X = ℕ} m (length b + m) 0 (omega arith)))

pub length-filled : (w : ℕ) (b : List ℕ) → length (filled w b) ≡ w
unfolding filled
length-filled w b = length-take w (b ++ zeros w) ∙ omega (arith, length-append b (zeros w), length-replicate {A = ℕ} w 0)

-- a full part stays as it is
pub filled_full : (w : ℕ) (b : List ℕ) → length b ≡ w → filled w b ≡ b
unfolding filled
filled_full w b e = take_at b (zeros w) w e

-- a part was written over the front of zeros
pub fill_is : (w : ℕ) (old part front : List ℕ) → length part ≤ w → old ≡ zeros w → front ≡ part → front ++ post_of 0 (length part - 0) old ≡ filled w part
fill_is w old part front h z f =
    let r : post_of 0 (length part - 0) old ≡ zeros (w - length part) = rw (from_zero (length part), z) (drop-replicate {X = ℕ} (length part) w 0) in
    rw (r, f) (sym (filled_as w (w - length part) part (omega arith)))

-- 80 was written behind a part in front of zeros
pub pad_filled : (w : ℕ) (out part : List ℕ) → length part < w → out ≡ filled w part → set out (length part) 0x80 ≡ padded w part
pad_filled w out part h e =
    let m = w - length part - 1 in
    rw (e, filled_as w (suc m) part (omega arith)) (set_at part 0 (replicate m 0) 0x80 (length part) refl ∙ sym (padded_as w m part (omega arith)))

-- a full part was written over all of it
pub pad_full : (w : ℕ) (out part : List ℕ) → length part ≡ w → out ≡ filled w part → out ≡ padded w part
pad_full w out part h e = e ∙ filled_full w part h ∙ sym (padded_full w part h)

-- the same of a part that was written over the front of zeros
pub pad_is : (w : ℕ) (old part front : List ℕ) → length part < w → old ≡ zeros w → front ≡ part → set (front ++ post_of 0 (length part - 0) old) (length part) 0x80 ≡ padded w part
pad_is w old part front h z f = pad_filled w _ part h (fill_is w old part front (omega arith) z f)

pub pad_none : (w : ℕ) (old part front : List ℕ) → length part ≡ w → old ≡ zeros w → front ≡ part → front ++ post_of 0 (length part - 0) old ≡ padded w part
pad_none w old part front h z f = pad_full w _ part h (fill_is w old part front (omega arith) z f)

-- both halves of a padded block that ends in the left one
module _ (n : ℕ) (part : List ℕ) (h : length part < n) where
  short_as : padded (2 * n) part ≡ padded n part ++ zeros n
  short_as =
      let m = n - length part - 1 in
      rw (padded_as (2 * n) (m + n) part (omega arith), padded_as n m part (omega arith), ← replicate-append-replicate {A = ℕ} m n 0, append_assoc)

  pub short_left : padded n part ≡ take n (padded (2 * n) part)
  short_left = sym (ap (take n) short_as ∙ take_at (padded n part) (zeros n) n (length-padded n part))

  pub short_right : zeros n ≡ drop n (padded (2 * n) part)
  short_right = sym (ap (drop n) short_as ∙ drop_at (padded n part) (zeros n) n (length-padded n part))

-- and of one that reaches into the right one
module _ (n : ℕ) (part : List ℕ) (low : n ≤ length part) where
  long_length : length (take n part) ≡ n
  long_length = simp length-take (omega arith)

  long_as : padded (2 * n) part ≡ take n part ++ padded n (drop n part)
  long_as =
      let d : 2 * n ≡ n + n = omega arith in
      let whole : part ++ 0x80 ∷ zeros (2 * n) ≡ take n part ++ (drop n part ++ 0x80 ∷ zeros (2 * n)) = ap (λ p. p ++ 0x80 ∷ zeros (2 * n)) (sym (take-append-drop n part)) ∙ append_assoc (take n part) (drop n part) (0x80 ∷ zeros (2 * n)) in
      ap (take (2 * n)) whole
      ∙ ap (λ k. take k (take n part ++ (drop n part ++ 0x80 ∷ zeros (2 * n)))) d
      ∙ take-add n n (take n part ++ (drop n part ++ 0x80 ∷ zeros (2 * n)))
      ∙ rw (take_at (take n part) (drop n part ++ 0x80 ∷ zeros (2 * n)) n long_length, drop_at (take n part) (drop n part ++ 0x80 ∷ zeros (2 * n)) n long_length)
      (ap (λ t. take n part ++ t) (enough n (2 * n) n (drop n part) (omega arith) (omega arith)))

  pub long_left : take n part ≡ take n (padded (2 * n) part)
  long_left = sym (ap (take n) long_as ∙ take_at (take n part) (padded n (drop n part)) n long_length)

  pub long_right : padded n (drop n part) ≡ drop n (padded (2 * n) part)
  long_right = sym (ap (drop n) long_as ∙ drop_at (take n part) (padded n (drop n part)) n long_length)
