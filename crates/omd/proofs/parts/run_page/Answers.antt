use Rattle.std.proofs.Common.{refl, ◌∙◌, arith}
use Rattle.compression.specs.Parts.{bytes_of}
use Rattle.frames.specs.Chain.{fed}
use Rattle.frames.specs.Offsets.{delta, star}
use Rattle.frames.proofs.Pages.{empty_cipher, empty_ended, enciphered, closes}
use Rattle.omd.specs.Omd.{entry, ending}
use Rattle.omd.proofs.Pages.{ended_by}
use Rattle.omd.proofs.parts.run_page.Goals as goal

pub returns-then-n-eq0 : goal.returns-then-n-eq0
returns-then-n-eq0 g c =
    let m = g.F.Compression in
    let w = m.WIDTH in
    let fb = m.FEEDBACK in
    let V = m.value c.args.f.now in
    record {
      kept = refl;
      cipher = λ d e. empty_cipher w (fed V (delta (entry w fb V) d)) (bytes_of c.args.start.value) c.args.direction c.args.src.now c.args.dst.now c.if-n-eq0.true c.requires.dst;
      tag = λ d e. empty_ended w (fed V (delta (entry w fb V) d)) (bytes_of c.args.start.value) (λ i k q. ending w fb V (star w V) (delta (entry w fb V) d i) k q) c.args.direction c.args.src.now c.args.dst.now c.if-n-eq0.true c.requires.dst;
    }

pub returns : goal.returns
returns g c =
    let m = g.F.Compression in
    let w = m.WIDTH in
    let fb = m.FEEDBACK in
    let z = g.met.F.Compression.wide.0 in
    let V = m.value c.args.f.now in
    let p = c.pass_front-at in
    let go = p.ensures.going in
    let rs = c.requires.table.entries_are in
    record {
      kept = c.last_block.ensures.kept ∙ p.ensures.kept;
      cipher = λ d e. enciphered w z (λ q. q.long) V c.args.table.now _ c.args.start c.args.src.now p.new.dst c.last_block.new.dst p.result.0 p.result.1 (omega arith) (omega arith) p.ensures.left go c.last_block.ensures.dst (entry w fb V) d rs e;
      tag = λ d e. c.last_block.ensures.tag
          ∙ ended_by w fb z V (m.value p.new.f) (bytes_of c.args.table.now.star) (bytes_of p.result.0.offset) _ _ d p.result.0.index p.ensures.kept c.requires.table.star_is (go.goes (entry w fb V) d rs e).0
          ∙ closes w z (λ q. q.long) V c.args.table.now _ c.args.start c.args.src.now p.new.dst c.last_block.new.dst p.result.0 p.result.1 (omega arith) (omega arith) p.ensures.left go c.last_block.ensures.dst (entry w fb V) d rs e (λ i k q. ending w fb V (star w V) (delta (entry w fb V) d i) k q);
    }
