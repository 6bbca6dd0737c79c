use Rattle.std.proofs.Common.{◌≡◌, ◌++◌, length, drop, sym, ap, ◌∙◌, arith}
use Rattle.std.proofs.lemmas.List.{append-nil, drop_all}
use Rattle.base.specs.Bytes.{digits}
use Rattle.base.proofs.Numbers.{digits_less}
use Rattle.base.proofs.slices.number_into.Goals as goal

pub loop-i-init : goal.loop-i-init
loop-i-init c = let n = length c.args.out.now in ap (λ z. digits n c.args.t ++ z) (drop_all n c.args.out.now (omega arith)) ∙ append-nil _

pub loop-i-preserved : goal.loop-i-preserved
loop-i-preserved c = digits_less c.loop-i.out c.loop-i.i c.loop-i.rest (omega arith) (omega arith) ∙ c.loop-i.invariant

pub returns : goal.returns
returns c = let z : c.loop-i.i ≡ 0 = omega arith in ap (λ i. digits i c.loop-i.rest ++ drop i c.loop-i.out) (sym z) ∙ c.loop-i.invariant
