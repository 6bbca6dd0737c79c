use Rattle.std.proofs.Common.{List, ℕ, ◌-◌, ap, ◌∙◌, arith}
use Rattle.fips180.specs.Compression.{schedule, added, worked}
use Rattle.fips180.specs.Values.{values}
use Rattle.fips180.proofs.Mapped.{loaded}
use Rattle.fips180.proofs.rounds.compress.Goals as goal

pub returns : goal.returns
returns g c =
    let z = g.W.Bits.sizes in
    let s = values g.W.Bits.val c.args.start in
    let block = loaded g.W.Bits.val c.args.left c.args.right _ _ _ (omega arith) (omega arith) c.copy_from_slice.ensures.after c.copy_from_slice-2.ensures.after in
    record {
      value = c.run.ensures.value ∙ ap (λ (ws : List ℕ). added z (worked z s ws) s) block;
      schedule = c.run.ensures.schedule ∙ ap (schedule z (z.rounds - 16)) block;
    }
