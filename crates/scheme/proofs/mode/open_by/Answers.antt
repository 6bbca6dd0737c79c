use Rattle.std.proofs.Common.{rules, ℕ, arith, length-take}
use Rattle.scheme.specs.Meaning.{mode}
use Rattle.scheme.proofs.Gifts.{gave}
use Rattle.scheme.proofs.mode.open_by.Goals as goal

pub returns-clause-opened : goal.returns-clause-opened
returns-clause-opened g c =
    let m = g.M.Mode in
    let s = c.args.m.now in
    let may = c.in_ok-inputs.ensures.1 in
    let fits = may.fits in
    gave (mode (m.tag s) m.end (m.E s)) c.args.nonce.now c.args.ad.now c.args.body.now c.args.out.now c.open_into.new.page c.in_ok-inputs.n (rw c.tag_len.ensures at may) (omega (arith, length-take {A = ℕ})) (search rules) (λ i. (c.type_inv.out i).fits)
