-- What a part of a compression function holds.
use Rattle.std.specs.Prelude.{ℕ, List, take}
use Rattle.compression.specs.declared.part.Part.{Part}

-- the first `width` of its bytes; those behind do not count
abbrev pub bytes_of : {F : Type 0} {g : _} → Part F g → List ℕ
bytes_of {g = g} p = take g.WIDTH p.bytes
