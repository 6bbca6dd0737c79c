use Rattle.std.proofs.Common.{refl, arith}
use Rattle.compression.specs.Parts.{bytes_of}
use Rattle.frames.specs.Feeds.{next_by}
use Rattle.frames.specs.Offsets.{delta}
use Rattle.frames.proofs.Pages.{empty_cipher, enciphered}
use Rattle.frames.proofs.pass.pass_all.Goals as goal

pub returns-then-n-eq0 : goal.returns-then-n-eq0
returns-then-n-eq0 g c =
    let m = g.F.Compression in
    record {
      kept = refl;
      cipher = λ L d rs e. empty_cipher m.WIDTH (next_by (m.value c.args.f.now) c.args.rule.feed (delta L d)) (bytes_of c.args.start.value) c.args.rule.direction c.args.src.now c.args.dst.now c.if-n-eq0.true c.requires.dst;
    }

pub returns : goal.returns
returns g c =
    let m = g.F.Compression in
    let p = c.pass_front-at in
    record {
      kept = p.ensures.kept;
      cipher = λ L d rs e. enciphered m.WIDTH g.met.F.Compression.wide.0 (λ q. q.long) (m.value c.args.f.now) c.args.table.now c.args.rule c.args.start c.args.src.now p.new.dst c.xor_to.new.dst p.result.0 p.result.1 (omega arith) (omega arith) p.ensures.left p.ensures.going c.xor_to.ensures L d rs e;
    }
