-- Laws of the exclusive or of two lists.
use Rattle.std.proofs.Common.{◌≡◌, ℕ, ◌≤◌, min, List, [], ◌∷◌, length, sym, refl, ap, ◌∙◌, ap₂, le_of_suc-le-suc, not-suc-le-zero, arith}
use lib.Bits.{xor_assoc, xor_comm, xor_self, xor_zero_r, xor_lt}
use Rattle.base.specs.Bytes.{xor, Bytes}

pub length-xor : (xs ys : List ℕ) → length (xor xs ys) ≡ min (length xs) (length ys)
length-xor [] ys = omega arith
length-xor (x ∷ xs) [] = omega arith
length-xor (x ∷ xs) (y ∷ ys) = let e = length-xor xs ys in omega arith

pub xor_swap : (a b : List ℕ) → xor a b ≡ xor b a
xor_swap [] [] = refl
xor_swap [] (y ∷ ys) = refl
xor_swap (x ∷ xs) [] = refl
xor_swap (x ∷ xs) (y ∷ ys) = ap₂ (λ u v. u ∷ v) (xor_comm x y) (xor_swap xs ys)

pub xor_group : (a b c : List ℕ) → xor (xor a b) c ≡ xor a (xor b c)
xor_group [] b c = refl
xor_group (x ∷ xs) [] c = refl
xor_group (x ∷ xs) (y ∷ ys) [] = refl
xor_group (x ∷ xs) (y ∷ ys) (z ∷ zs) = ap₂ (λ u v. u ∷ v) (xor_assoc x y z) (xor_group xs ys zs)

pub xor_undo : (a h : List ℕ) → length a ≤ length h → xor (xor a h) h ≡ a
xor_undo [] h l = refl
xor_undo (x ∷ xs) [] l = absurd (not-suc-le-zero l)
xor_undo (x ∷ xs) (y ∷ ys) l = ap₂ (λ u v. u ∷ v) (rw (xor_assoc x y y, xor_self y, xor_zero_r x)) (xor_undo xs ys (le_of_suc-le-suc l))

-- what a block under h was
pub xor_same : (a b h : List ℕ) → length a ≤ length h → length b ≤ length h → xor a h ≡ xor b h → a ≡ b
xor_same a b h l m e = sym (xor_undo a h l) ∙ ap (λ t. xor t h) e ∙ xor_undo b h m

-- bytes give bytes
pub Bytes-xor : (a b : List ℕ) → Bytes a → Bytes b → Bytes (xor a b)
Bytes-xor [] b p q = tt
Bytes-xor (x ∷ xs) [] p q = tt
Bytes-xor (x ∷ xs) (y ∷ ys) p q = (xor_lt 8 x y p.0 q.0, Bytes-xor xs ys p.1 q.1)
