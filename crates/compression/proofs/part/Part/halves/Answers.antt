use Rattle.std.proofs.Common.{drop, ap, ◌∙◌, arith}
use Rattle.base.specs.Bytes.{padded}
use Rattle.base.proofs.Pads.{short_left, short_right, long_right}
use Rattle.compression.proofs.part.Part.halves.Goals as goal

pub returns-then-block-w-clause-left : goal.returns-then-block-w-clause-left
returns-then-block-w-clause-left g c = c.padded.ensures ∙ short_left g.F.Compression.WIDTH c.args.block.now (omega arith)

pub returns-then-block-w-clause-right : goal.returns-then-block-w-clause-right
returns-then-block-w-clause-right g c = c.zeros.ensures ∙ short_right g.F.Compression.WIDTH c.args.block.now (omega arith)

pub returns-clause-right : goal.returns-clause-right
returns-clause-right g c =
    let w = g.F.Compression.WIDTH in
    let b = c.args.block.now in
    c.padded-2.ensures ∙ ap (padded w) (c.split_at.ensures.back ∙ ap (λ n. drop n b) c.WIDTH-w.ensures) ∙ long_right w b (omega arith)
