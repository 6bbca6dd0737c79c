use Rattle.std.proofs.Common.{◌-◌, arith}
use Rattle.fips180.specs.Compression.{word_at}
use Rattle.fips180.proofs.Mapped.{read-map}
use Rattle.fips180.proofs.rounds.next_word.Goals as goal

pub returns : goal.returns
unfolding word_at
returns g c =
    let v = g.W.Bits.val in
    let w = c.args.w.now in
    let t = c.args.t in
    let e1 = read-map v w (t - 2) c.index-w-t.result (omega arith) c.index-w-t.is in
    let e2 = read-map v w (t - 7) c.index-w-t-2.result (omega arith) c.index-w-t-2.is in
    let e3 = read-map v w (t - 15) c.index-w-t-3.result (omega arith) c.index-w-t-3.is in
    let e4 = read-map v w (t - 16) c.index-w-t-4.result (omega arith) c.index-w-t-4.is in
    cc
