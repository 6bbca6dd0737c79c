-- The worked examples of serial and counter, as one computed comparison: the trial function, a tag of 16 bytes, and a nonce of twelve 11.
use Rattle.std.specs.Prelude.{ℕ, Bool, List, [], ◌∷◌, ◌++◌}
use Rattle.base.specs.Bytes.{xor, zeros}
use Rattle.two_pass.specs.TwoPass.{sealed as sealed_twice}
use Rattle.two_pass.specs.declared.keystream.Keystream.{Keystream}
use Rattle.two_pass.specs.declared.keystream.Keystream.TheVariants.{Serial, Counter}
use Rattle.worked_examples.specs.Examples.{same, all, elevens}

-- E(twelve 11, a, p) over the trial function, which is ⊕, of serial and counter
abbrev pub E_of : Keystream → List ℕ → List ℕ → List ℕ
E_of k a p = sealed_twice 32 0x0425 xor k 16 (elevens 12) a p

abbrev pub examples : Bool
examples =
    all (
    same (E_of Serial [] []) (0x91 ∷ elevens 11 ++ 0x80 ∷ zeros 3)
    ∷ same (E_of Serial [] (0x41 ∷ [])) (0x50 ∷ 0x91 ∷ elevens 10 ++ 0x80 ∷ zeros 4)
    ∷ same (E_of Counter [] []) (0x91 ∷ elevens 11 ++ 0x80 ∷ zeros 3)
    ∷ same (E_of Counter [] (0x41 ∷ [])) (0x50 ∷ 0x91 ∷ elevens 10 ++ 0x80 ∷ zeros 4)
    ∷ [])
