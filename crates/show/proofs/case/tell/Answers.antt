use Rattle.std.proofs.Common.{◌≡◌, length, ◌∙◌}
use Rattle.show.proofs.case.tell.Goals as goal

pub returns-clause-told : goal.returns-clause-told
returns-clause-told g c =
    let n = c.deref.ensures.value in
    let a = c.deref-2.ensures.value in
    let p = c.deref-3.ensures.value in
    let room : length c.deref_mut.result.now ≡ 4160 = c.deref_mut.ensures.len ∙ c.in_ok-body.ensures.len in
    rw (n, a, p, room) at c.tell_in.ensures.told
