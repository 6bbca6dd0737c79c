use Rattle.scheme.specs.Meaning.{mode}
use Rattle.scheme.proofs.Guarding.{agreed}
use Rattle.scheme.proofs.guard.open_into.Goals as goal

pub returns-clause-cases : goal.returns-clause-cases
returns-clause-cases g c =
    let m = g.M.Mode in
    let s = c.args.m.now in
    agreed (mode (m.tag s) m.end (m.E s)) c.args.inputs.nonce.now c.args.inputs.ad.now c.args.body.now c.recover_block.new.page c.recover_block.new.out c.tag_part.result.now c.agree.result c.tag_end.result c.tag_len-len.result c.recover_block.ensures.recovered c.tag_part.ensures.part c.tag_part.ensures.long c.tag_end.ensures c.tag_len-len.ensures c.agree.ensures c.if-not-guard.false _ _ c.drop-guard-2.ensures
