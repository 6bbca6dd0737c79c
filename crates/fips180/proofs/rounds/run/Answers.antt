use Rattle.std.proofs.Common.{◌≡◌, ℕ, ◌+◌, ◌-◌, ◌<◌, List, map, length, get_or, take, drop, sym, refl, ap, ap₂, ◌∙◌, subst, arith}
use Rattle.std.proofs.lemmas.List.{length-map, map-set, get_or-take}
use Rattle.std.proofs.lemmas.Slice.Zip.{either_empty_from_Zip}
use Rattle.std.specs.Iterator.Adapters.{zip_first, zip_second}
use Rattle.std.specs.Slice.Iter.{iter_rest}
use Rattle.fips180.specs.Compression.{round, rounds, added}
use Rattle.fips180.specs.Values.{values}
use Rattle.fips180.specs.declared.state.State.{State}
use Rattle.fips180.proofs.Mapped.{read-map, rest_of}
use Rattle.fips180.proofs.Schedules.{Going, going_none, going_more, going_all, after_front, rounds_more, rounds_end}
use Rattle.fips180.proofs.rounds.run.Goals as goal

pub loop-t-init : goal.loop-t-init
loop-t-init g c = going_none _ _ _ _ _ refl

pub loop-t-preserved : goal.loop-t-preserved
loop-t-preserved g c =
    let z = g.W.Bits.sizes in
    let v = g.W.Bits.val in
    let w = c.loop-t.w in
    let t = c.loop-t.t in
    let ks = c.constants-constants.result.now in
    let k = c.k-item.result in
    let n : length ks ≡ z.rounds = simp length-map at (ap length c.constants-constants.ensures) ∙ g.met.W.Word.table in
    let r = read-map v w t c.index-w-t.result (omega arith) c.index-w-t.is in
    let i : k ≡ get_or ks t k = c.k-item.is ∙ get_or-take (length ks - 16 - 0) ks t k (omega arith) in
    let q = read-map v ks t k (omega arith) i in
    let l : t + 16 < length (map v w) = simp length-map (omega arith) in
    let u : values v c.round-s.result ≡ round z (values v c.loop-t.s) (get_or z.constants t 0) (get_or (map v w) t 0) = cc in
    subst (λ (ws : List ℕ). Going z (values v c.args.start) z.constants (take 16 (map v c.args.w.now)) ws (t + 1) (values v c.round-s.result))
    (sym (map-set v w (t + 16) c.next_word.result))
    (going_more z (values v c.args.start) z.constants _ (map v w) t _ (omega (arith, g.met.W.Word.table)) l u c.next_word.ensures c.loop-t.invariant)

pub loop-k-preserved : goal.loop-k-preserved
loop-k-preserved g c =
    let z = g.W.Bits.sizes in
    let v = g.W.Bits.val in
    let e = c.in-Some.ensures.steps in
    sym (rounds_more z _ _ _ _ _ _ _ _ c.round-s-in-loop-k.ensures (ap (map v) e.0) (ap (map v) e.1)) ∙ c.loop-k.invariant

pub returns-clause-value : goal.returns-clause-value
returns-clause-value g c =
    let z = g.W.Bits.sizes in
    let v = g.W.Bits.val in
    let w = c.loop-t.w in
    let ks = c.constants-constants.result.now in
    let nk : length ks ≡ z.rounds = simp length-map at (ap length c.constants-constants.ensures) ∙ g.met.W.Word.table in
    let nw : length (map v w) ≡ z.rounds = simp length-map (omega arith) in
    let it = c.into_iter-k-iterator.result in
    let same = c.into_iter-k-iterator.ensures.into_iter_gives in
    let second = c.zip-k-items.ensures.second.0 in
    let ek = rest_of v (length ks - 16) ks (iter_rest (zip_first it)) cc in
    let ew = rest_of v (length ks - 16) w (iter_rest (zip_second it)) cc in
    let left = either_empty_from_Zip c.loop-k.k-iterator c.next.new.self c.next.result c.in-None.is c.next.ensures.steps in
    let all = after_front z (values v c.args.start) (take 16 (map v c.args.w.now)) (map v w) (length ks - 16) c.loop-t.t g.met.W.Word.table nw g.met.W.Word.enough (omega arith) (omega arith) c.loop-t.invariant in
    let done = sym (rounds_end z v _ _ _ left) ∙ c.loop-k.invariant ∙ ap₂ (rounds z (values v c.loop-t.s)) (ek ∙ ap (drop (length ks - 16)) c.constants-constants.ensures) ew ∙ all in
    c.add.ensures ∙ ap (λ (s : State ℕ). added z s (values v c.args.start)) done

pub returns-clause-schedule : goal.returns-clause-schedule
returns-clause-schedule g c =
    let v = g.W.Bits.val in
    let nk : length c.constants-constants.result.now ≡ g.W.Bits.sizes.rounds = simp length-map at (ap length c.constants-constants.ensures) ∙ g.met.W.Word.table in
    let nw : length (map v c.loop-t.w) ≡ g.W.Bits.sizes.rounds = simp length-map (omega arith) in
    going_all g.W.Bits.sizes (values v c.args.start) g.W.Bits.sizes.constants (take 16 (map v c.args.w.now)) (map v c.loop-t.w) c.loop-t.t nw g.met.W.Word.enough (omega arith) c.loop-t.invariant
