-- The worked examples, as one computed comparison: the trial function, a tag of 16 bytes, and a nonce of twelve 11.
use Rattle.std.specs.Prelude.{◌≡◌, None, ℕ, zero, suc, Bool, true, false, not, ◌&&◌, List, [], ◌∷◌, ◌++◌, replicate, ◌==◌}
use Rattle.base.specs.Bytes.{xor, zeros, double}
use Rattle.omd.specs.Omd.{sealed}
use Rattle.scheme.specs.Meaning.{Meaning}
use Rattle.scheme.specs.Answers.{seal_fault}

abbrev pub same : List ℕ → List ℕ → Bool
same [] [] = true
same [] (y ∷ ys) = false
same (x ∷ xs) [] = false
same (x ∷ xs) (y ∷ ys) = x == y && same xs ys

abbrev pub all : List Bool → Bool
all [] = true
all (b ∷ bs) = b && all bs

abbrev pub elevens : ℕ → List ℕ
elevens n = replicate n 0x11

-- E(twelve 11, a, p) over the trial function, which is ⊕
abbrev pub E : List ℕ → List ℕ → List ℕ
E a p = sealed 32 0x0425 xor 16 (elevens 12) a p

-- no page of one byte below n gives the body b
abbrev pub none_below : ℕ → List ℕ → Bool
none_below zero b = true
none_below (suc n) b = not (same (E [] (n ∷ [])) b) && none_below n b

abbrev pub examples : Bool
examples =
    all (
    same (E [] []) (elevens 12 ++ 0x80 ∷ zeros 3)
    ∷ same (E [] (0x41 ∷ [])) (0x50 ∷ 0x41 ∷ 0x80 ∷ zeros 14)
    ∷ same (E [] (zeros 32)) (elevens 12 ++ (0x80 ∷ zeros 18) ++ (0x80 ∷ zeros 16))
    ∷ same (E (0x07 ∷ []) []) (0x16 ∷ 0x91 ∷ elevens 10 ++ 0x80 ∷ zeros 3)
    ∷ none_below 256 (0x51 ∷ 0x41 ∷ 0x80 ∷ zeros 14)
    ∷ same (double 0x0425 (0x80 ∷ zeros 31)) (zeros 30 ++ 0x04 ∷ 0x25 ∷ [])
    ∷ same (double 0x0125 (0x80 ∷ zeros 63)) (zeros 62 ++ 0x01 ∷ 0x25 ∷ [])
    ∷ [])

-- with 64 bytes of room nothing speaks against sealing page p, and its body is b
pub record SealsTo (m : Meaning) (n a p b : List ℕ) : Type 0 where
  pub may : seal_fault m.limits n a p 64 ≡ None
  pub gives : m.E n a p ≡ b
