use Rattle.std.proofs.Common.{◌≤◌, length, refl, ap}
use Rattle.address_tests.specs.Narrow.{narrow_layers, narrowed}
use Rattle.address_tests.specs.Narrows.{longest, same, within}
use Rattle.address.specs.Handing.{sealed_above, seal_layer}
use Rattle.address_tests.proofs.narrow.NarrowScheme.seal.Goals as goal

pub returns : goal.returns
returns g c =
    let s = c.args.self.now in
    let m = g.S.Scheme.meaning s.below in
    let a = c.args.ad.now in
    let fits : length a ≤ longest m = c.in_ok-check_ad.ensures in
    record {
      kept = ap narrowed c.seal.ensures.kept;
      stays = ap narrow_layers c.seal.ensures.stays;
      layer = seal_layer (longest m) same m (within m) c.args.nonce.now a a fits refl 9 (g.S.Scheme.layers s.below) c.args.page.now c.args.out.now c.seal.new.out c.seal.result c.seal.ensures.sealed c.seal.ensures.layer;
      sealed = sealed_above (longest m) same m (within m) c.args.nonce.now a a fits refl c.args.page.now c.args.out.now c.seal.new.out c.seal.result c.seal.ensures.sealed;
    }
