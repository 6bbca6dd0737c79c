-- What a write to a part leaves.
use Rattle.std.proofs.Common.{◌≡◌, ℕ, ◌+◌, ◌-◌, ◌≤◌, List, ◌++◌, length, take, drop, ap, ◌∙◌, arith}
use borrow.Rule.Slice.PartMut.{put_mid}
use Rattle.std.proofs.lemmas.List.{drop-drop, drop_all, append-nil, take_all, length-drop}

-- a write to the end of xs
pub put_end : (a k : ℕ) (xs ys : List ℕ) → length xs ≤ a + k → put_mid a k xs ys ≡ take a xs ++ ys
put_end a k xs ys h = ap (λ z. take a xs ++ (ys ++ z)) (drop-drop k a xs ∙ drop_all (a + k) xs h) ∙ ap (λ z. take a xs ++ z) (append-nil ys)

-- the part from a to the end
pub part_end : (a k : ℕ) (xs : List ℕ) → length xs ≤ a + k → take k (drop a xs) ≡ drop a xs
part_end a k xs h = let l : length (drop a xs) ≤ k = simp length-drop (omega arith) in take_all k (drop a xs) l

pub from_zero : (w : ℕ) → w - 0 ≡ w
from_zero w = omega arith
