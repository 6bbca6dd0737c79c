-- What serial and counter mean.
use Rattle.std.specs.Prelude.{ℕ, List}
use Rattle.scheme.specs.Meaning.{Meaning, mode}
use Rattle.scheme.specs.declared.limits.End.TheVariants.{Front}
use Rattle.two_pass.specs.TwoPass.{sealed}
use Rattle.two_pass.specs.declared.keystream.Keystream.{Keystream}
use Rattle.two_pass.specs.declared.modes.TwoPass.{TwoPass}

-- the mode over F with keystream k and a tag of tau bytes: the tag stands in front
abbrev pub two_pass : (w fb : ℕ) → (List ℕ → List ℕ → List ℕ) → Keystream → ℕ → Meaning
two_pass w fb F k tau = mode tau Front (sealed w fb F k tau)

-- the meaning of s, where `value` is that of its compression function
abbrev pub means : {F K : Type 0} {g : _} → (w fb : ℕ) → (F → List ℕ → List ℕ → List ℕ) → Keystream → TwoPass F K g → Meaning
means w fb value k s = two_pass w fb (value s.setup.f) k s.setup.tag_len
