use Rattle.address.specs.Addresses.{behind, longest, within}
use Rattle.address.specs.Handing.{opened_above}
use Rattle.address.proofs.address.AddressedScheme.open.Goals as goal

pub returns-clause-opened : goal.returns-clause-opened
returns-clause-opened g c =
    let s = c.args.self.now in
    let at = s.address in
    let m = g.S.Scheme.meaning s.below in
    let joined = c.in_ok-ad.ensures in
    opened_above (longest at m) (behind at m) m (within at m) c.args.nonce.now c.args.ad.now c.in_ok-ad.ad.now joined.fits joined.is c.args.body.now c.args.out.now c.open.new.out c.open.result c.open.ensures.opened
