-- A sum over blocks of 2w bytes that has come to the last one.
use Rattle.std.specs.Prelude.{◌≡◌, ℕ, ◌*◌, ◌≤◌, cond, List, length, nat_lt}
use Rattle.compression.specs.Parts.{bytes_of}
use Rattle.frames.specs.Chain.{tally}
use Rattle.frames.specs.declared.pass.Pass.{Pass}
use Rattle.two_pass.specs.Kinds.{number_of}
use Rattle.two_pass.specs.TwoPass.{mask, page_blocks}
use Rattle.two_pass.specs.declared.kinds.Kinds.{Kinds}

-- r stands at the last block of src, which is `last`, under that block's mask; whatever closes the sum closes it there
pub record Summed {X : Type 0} {g : _} (w fb : ℕ) (F : List ℕ → List ℕ → List ℕ) (kinds : Kinds) (d sum src : List ℕ) (r : Pass X g) (last : List ℕ) : Type 0 where
  pub left : length last ≤ 2 * w
  pub offset_is : bytes_of r.offset ≡ mask w fb F d (cond (nat_lt (length last) (2 * w)) (number_of kinds.short) (number_of kinds.full)) r.index
  pub sum_is : (close : ℕ → List ℕ → List ℕ → List ℕ) → close r.index (bytes_of r.value) last ≡ tally w F (mask w fb F d (number_of kinds.front)) close 1 sum (page_blocks w src)
