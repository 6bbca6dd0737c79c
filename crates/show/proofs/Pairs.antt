-- One byte more in hexadecimal.
use Rattle.std.proofs.Common.{◌≡◌, ℕ, ◌+◌, ◌/◌, ◌%◌, ◌<◌, List, [], ◌∷◌, ◌++◌, length, get_or, take, sym, ap, ◌∙◌}
use Rattle.std.proofs.lemmas.List.{take_more, flat_map_more, append_assoc}
use Rattle.show.specs.Shown.{digit, pair, hex}

pub hex_more : (bytes s s1 s2 : List ℕ) (i hi lo : ℕ) → i < length bytes → s ≡ hex (take i bytes) → s1 ≡ s ++ hi ∷ [] → s2 ≡ s1 ++ lo ∷ [] → hi ≡ digit (get_or bytes i 0 / 16) → lo ≡ digit (get_or bytes i 0 % 16) → s2 ≡ hex (take (i + 1) bytes)
hex_more bytes s s1 s2 i hi lo h e e1 e2 eh el =
    e2 ∙ ap (λ t. t ++ lo ∷ []) e1 ∙ append_assoc s (hi ∷ []) (lo ∷ []) ∙ rw (e, eh, el) (flat_map_more pair [] (take i bytes) (get_or bytes i 0)) ∙ ap hex (sym (take_more bytes i 0 h))
