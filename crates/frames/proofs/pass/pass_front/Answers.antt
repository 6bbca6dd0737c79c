use Rattle.std.proofs.Common.{◌+◌, ◌-◌, take, drop, refl, ◌∙◌, arith}
use Rattle.std.proofs.lemmas.List.{length-take, length-drop}
use Rattle.frames.specs.Progress.{Turned}
use Rattle.frames.proofs.Goings.{going_none, going_at}
use Rattle.frames.proofs.pass.pass_front.Goals as goal

pub loop-at-init : goal.loop-at-init
loop-at-init g c =
    let m = g.F.Compression in
    (refl, going_none m.WIDTH g.met.F.Compression.wide.0 (λ p. p.long) (m.value c.args.f.now) c.args.table.now c.args.rule c.args.start c.args.src.now c.args.dst.now c.requires.start)

pub turn-pass-requires : goal.turn-pass-requires
turn-pass-requires g c =
    let d = c.loop-at.invariant.1 in
    let e = c.WIDTH-w.ensures in
    (omega arith, (omega (arith, d.counted), (simp (length-take, length-drop) (omega arith), simp (length-take, length-drop) (omega arith))))

pub loop-at-preserved : goal.loop-at-preserved
loop-at-preserved g c =
    let m = g.F.Compression in
    let v = c.loop-at.invariant.0 in
    let at = c.loop-at.at in
    let t : Turned (m.value c.args.f.now) c.args.table.now c.args.rule c.loop-at.pass (take (at + c.WIDTH-w.result - at) (drop at c.args.src.now)) c.turn-pass.new.dst c.turn-pass.result = rw v at c.turn-pass.ensures.turned in (
      c.turn-pass.ensures.kept ∙ v,
      going_at m.WIDTH g.met.F.Compression.wide.0 (λ p. p.long) (m.value c.args.f.now) c.args.table.now c.args.rule c.args.start c.args.src.now c.WIDTH-w.result c.WIDTH-w.ensures c.loop-at.pass c.turn-pass.result at c.loop-at.dst c.turn-pass.new.dst (omega arith) c.requires.src (omega arith) c.loop-at.invariant.1 t,
    )
