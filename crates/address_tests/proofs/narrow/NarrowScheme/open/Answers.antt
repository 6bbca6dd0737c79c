use Rattle.std.proofs.Common.{◌≤◌, length, refl, ap}
use Rattle.address_tests.specs.Narrow.{narrow_layers, narrowed}
use Rattle.address_tests.specs.Narrows.{longest, same, within}
use Rattle.address.specs.Handing.{opened_above, open_layer}
use Rattle.address_tests.proofs.narrow.NarrowScheme.open.Goals as goal

pub returns : goal.returns
returns g c =
    let s = c.args.self.now in
    let m = g.S.Scheme.meaning s.below in
    let a = c.args.ad.now in
    let fits : length a ≤ longest m = c.in_ok-check_ad.ensures in
    record {
      kept = ap narrowed c.open.ensures.kept;
      stays = ap narrow_layers c.open.ensures.stays;
      layer = open_layer (longest m) same m (within m) c.args.nonce.now a a fits refl 9 (g.S.Scheme.layers s.below) c.args.body.now c.args.out.now c.open.new.out c.open.result c.open.ensures.opened c.open.ensures.layer;
      opened = opened_above (longest m) same m (within m) c.args.nonce.now a a fits refl c.args.body.now c.args.out.now c.open.new.out c.open.result c.open.ensures.opened;
    }
