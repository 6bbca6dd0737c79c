use Rattle.std.proofs.Common.{◌≡◌, ℕ, List, ap, ◌∙◌, arith}
use Rattle.std.specs.Int.Count.{count_trailing_zeros}
use Rattle.frames.specs.Offsets.{Entries}
use Rattle.frames.proofs.Counts.{ntz_below}
use Rattle.frames.proofs.offsets.OffsetTable.next_into.Goals as goal

pub listed : goal.listed
listed g c = let k = ntz_below 64 8 c.args.i (omega arith) (omega arith) in omega arith

pub bounds-self-n : goal.bounds-self-n
bounds-self-n g c = let k = ntz_below 64 8 c.args.i (omega arith) (omega arith) in omega arith

pub returns : goal.returns
returns g c =
    let k = ntz_below 64 8 c.args.i (omega arith) (omega arith) in
    let e : (L : ℕ → List ℕ) → Entries c.args.self.now L → c.as_slice.result.now ≡ L (count_trailing_zeros 64 c.args.i) = λ L r. c.as_slice.ensures.bytes ∙ r.are _ (omega arith) _ ∙ ap L (omega arith) in
    record {
      front = λ L r. rw (e L r) at c.xor_into.ensures.front;
      whole = λ L r h. rw (e L r) at c.xor_into.ensures.whole h;
    }
