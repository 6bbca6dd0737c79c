use Rattle.std.proofs.Common.{ℕ, ◌∙◌, arith}
use Rattle.std.proofs.lemmas.List.{take-replicate}
use Rattle.compression.proofs.part.Part.zeros.Goals as goal

pub returns : goal.returns
returns g c = let z = g.met.F.Compression.wide.1 in c.front.ensures ∙ take-replicate {X = ℕ} g.F.Compression.WIDTH 64 0 (omega arith)
