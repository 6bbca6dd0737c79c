use Rattle.std.proofs.Common.{◌≡◌, ℕ, ◌<◌, true, Ok, MatchResult, get_or, subst, rules}
use Rattle.std.proofs.lemmas.Bool.Decides.{Decides-eqb}
use Rattle.std.proofs.lemmas.Slice.Eq.{slice_eq-Decides}
use Rattle.calls.proofs.Returns.{Came, comes_back, front}
use Rattle.calls.proofs.trip.round_trip.Goals as goal

pub returns-in-Ok-clause-body : goal.returns-in-Ok-clause-body
returns-in-Ok-clause-body g c =
    let small : (i : ℕ) → get_or c.args.page.now i 0 < 256 = search rules in
    let s = c.args.scheme.now in
    front (g.S.Scheme.meaning s) (g.met.S.Scheme.lawful s) c.args.nonce.now c.args.ad.now c.args.page.now c.args.body.now c.seal.new.out c.args.back.now c.in_ok-n.n c.in_ok-n.ensures.sealed small c.requires

pub returns-in-Ok-clause-tripped : goal.returns-in-Ok-clause-tripped
returns-in-Ok-clause-tripped g c =
    let small : (i : ℕ) → get_or c.args.page.now i 0 < 256 = search rules in
    let s = c.args.scheme.now in
    let came : Came c.args.page.now c.args.back.now c.in-Ok.k c.open.new.out = comes_back (g.S.Scheme.meaning s) (g.met.S.Scheme.lawful s) c.args.nonce.now c.args.ad.now c.args.page.now c.args.body.now c.seal.new.out c.args.back.now c.in_ok-n.n c.in_ok-n.ensures.sealed small c.requires (g.S.Scheme.meaning c.seal.new.self) c.seal.ensures.kept (Ok c.in-Ok.k) c.open.new.out c.in-Ok.ensures.opened in
    record { wrote = c.in_ok-n.ensures.sealed; page = came.whole }

pub returns-in_default-clause-tripped : goal.returns-in_default-clause-tripped
returns-in_default-clause-tripped g c =
    let small : (i : ℕ) → get_or c.args.page.now i 0 < 256 = search rules in
    let s = c.args.scheme.now in
    let came : Came c.args.page.now c.args.back.now c.in-Ok.k c.open.new.out = comes_back (g.S.Scheme.meaning s) (g.met.S.Scheme.lawful s) c.args.nonce.now c.args.ad.now c.args.page.now c.args.body.now c.seal.new.out c.args.back.now c.in_ok-n.n c.in_ok-n.ensures.sealed small c.requires (g.S.Scheme.meaning c.seal.new.self) c.seal.ensures.kept (Ok c.in-Ok.k) c.open.new.out c.in-Ok.ensures.opened in
    let same : c.eq.result ≡ true = (slice_eq-Decides Decides-eqb _ _ _ c.eq.ensures).1 came.front in
    let not_same = c.if-eq.false in
    cc

pub returns-in_default-2-clause-tripped : goal.returns-in_default-2-clause-tripped
returns-in_default-2-clause-tripped g c =
    let small : (i : ℕ) → get_or c.args.page.now i 0 < 256 = search rules in
    let s = c.args.scheme.now in
    subst (λ r. MatchResult r (λ j. Came c.args.page.now c.args.back.now j c.open.new.out) (λ e. ⊥)) c.in_default.is (comes_back (g.S.Scheme.meaning s) (g.met.S.Scheme.lawful s) c.args.nonce.now c.args.ad.now c.args.page.now c.args.body.now c.seal.new.out c.args.back.now c.in_ok-n.n c.in_ok-n.ensures.sealed small c.requires (g.S.Scheme.meaning c.seal.new.self) c.seal.ensures.kept c.open.result c.open.new.out c.open.ensures.opened)
