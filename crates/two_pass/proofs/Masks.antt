-- The masks of one kind are offsets from a start that has the kind in it.
use Rattle.std.proofs.Common.{◌≡◌, ℕ, List, ap, ◌∙◌}
use mathlib.Core.Path.{fun_ext}
use Rattle.base.specs.Bytes.{xor}
use Rattle.frames.specs.Offsets.{delta, star}
use Rattle.frames.proofs.Laws.{delta_start}
use Rattle.two_pass.specs.TwoPass.{times, entry, mask}

pub masks : (w fb : ℕ) (F : List ℕ → List ℕ → List ℕ) (d kind : List ℕ) (j : ℕ) → kind ≡ times w fb (star w F) j → delta (entry w fb F) (xor d kind) ≡ mask w fb F d j
masks w fb F d kind j e = fun_ext (λ i. delta_start (entry w fb F) d kind i ∙ ap (xor (delta (entry w fb F) d i)) e)
