-- A sealed page comes back.
use Rattle.std.proofs.Common.{◌≡◌, ℕ, ◌≤◌, Bool, true, false, cond, ltb, List, ◌++◌, length, take, drop, Some, None, Ok, Err, Option, Result, MatchResult, get_or, ◌<◌, refl, sym, ap, ap₂, subst, ◌∙◌, arith}
use Rattle.std.proofs.lemmas.Bool.{ltb-false, le-ltb}
use Rattle.std.proofs.lemmas.List.{length-append, take-append-drop}
use Rattle.std.proofs.Math.Seq.{take-append_seam}
use Rattle.std.proofs.ByRecursion.{All-from_get_or}
use Rattle.base.specs.declared.refusal.Refusal.{Refusal}
use Rattle.scheme.specs.declared.limits.Limits.{Limits}
use Rattle.scheme.specs.Meaning.{Meaning, Lawful, Page, Takes, body_length, page_length}
use Rattle.scheme.specs.Answers.{Fault, Gave, Opened, Shut, Wrote, Zeroed, open_fault, seal_fault}

-- page p came back into `back`, in j bytes
pub record Came (p back : List ℕ) (j : ℕ) (after : List ℕ) : Type 0 where
  pub front : take j after ≡ p
  pub whole : after ≡ p ++ drop (length p) back

-- the tests of a page that may be sealed
record Passed (l : Limits) (n a p : List ℕ) : Type 0 where
  ad : ltb l.ad (length a) ≡ false
  low : ltb (length n) 12 ≡ false
  high : ltb 31 (length n) ≡ false
  page : ltb l.page (length p) ≡ false

one : (b : Bool) (f : Fault) (next : Option Fault) → cond b (Some f) next ≡ None → (b ≡ false) × (next ≡ None)
one true f next e = let no : ⊥ = cc in absurd no
one false f next e = (refl, e)

passed : (l : Limits) (n a p : List ℕ) (room : ℕ) → seal_fault l n a p room ≡ None → Passed l n a p
passed l n a p room may =
    let ad = one _ _ _ may in
    let low = one _ _ _ ad.1 in
    let high = one _ _ _ low.1 in
    let page = one _ _ _ high.1 in
    record { ad = ad.0; low = low.0; high = high.0; page = page.0 }

-- page p was sealed into `body`, and has room where it comes back if the scheme takes it
module _ (m : Meaning) (law : Lawful m) (n a p before body back : List ℕ) (k : ℕ) (w : Wrote m n a p before k body) (small : (i : ℕ) → get_or p i 0 < 256) (room : length p ≤ m.limits.page → length p ≤ length back) where
  tests : Passed m.limits n a p
  tests = passed m.limits n a p (length before) w.may

  fits : length p ≤ length back
  fits = room (ltb-false _ _ tests.page)

  takes : Takes m n a
  takes = record { nonce_low = ltb-false _ _ tests.low; nonce_high = ltb-false _ _ tests.high; ad_high = ltb-false _ _ tests.ad }

  page : Page m p
  page = record { bytes = All-from_get_or (λ x. x < 256) p 0 (λ i h. small i); short = ltb-false _ _ tests.page }

  long : length (m.E n a p) ≡ body_length m.limits (length p)
  long = law.longer n a p takes page

  pub front : (k ≤ length body) × (take k body ≡ m.E n a p)
  front =
      let e : k ≡ length (m.E n a p) = w.long ∙ sym long in
      let l = ap length w.body ∙ length-append (m.E n a p) (drop k before) in
      (omega arith, ap (take k) w.body ∙ ap (λ i. take i (m.E n a p ++ drop k before)) e ∙ take-append_seam (m.E n a p) (drop k before))

  may_open : open_fault m.limits n a (m.E n a p) (length back) ≡ None
  may_open =
      let t = tests in
      let e = long in
      let s = page.short in
      let f = fits in
      let b1 = le-ltb (length (m.E n a p)) m.limits.tag (omega arith) in
      let b2 = le-ltb (body_length m.limits m.limits.page) (length (m.E n a p)) (omega arith) in
      let b3 = le-ltb (length back) (page_length m.limits (length (m.E n a p))) (omega arith) in
      simp (t.ad, t.low, t.high, b1, b2, b3)

  -- the page that comes back is p
  came : (j : ℕ) (after : List ℕ) → Gave m n a (m.E n a p) back j after → Came p back j after
  came j after g =
      let e : take j after ≡ p = law.one_page n a (take j after) p takes g.opens.page page g.opens.gives in
      let l = long in
      let h = g.long in
      let ej : j ≡ length p = omega arith in
      record { front = e; whole = sym (take-append-drop j after) ∙ ap₂ (λ xs ys. xs ++ ys) e (g.behind ∙ ap (λ i. drop i back) ej) }

  never : (e : Refusal) (after : List ℕ) → Shut m n a (m.E n a p) back e after (open_fault m.limits n a (m.E n a p) (length back)) → ⊥
  never e after s =
      let z : Zeroed m n a (m.E n a p) back e after = subst (λ f. Shut m n a (m.E n a p) back e after f) may_open s in
      z.none p (record { page = page; gives = refl })

  answered : (r : Result ℕ Refusal) (after : List ℕ) → Opened m n a (m.E n a p) back r after → MatchResult r (λ j. Came p back j after) (λ e. ⊥)
  answered (Ok j) after o = came j after o
  answered (Err e) after o = never e after o

  pub comes_back : (m' : Meaning) → m' ≡ m → (r : Result ℕ Refusal) (after : List ℕ) → Opened m' n a (take k body) back r after → MatchResult r (λ j. Came p back j after) (λ e. ⊥)
  comes_back m' em r after o = answered r after (subst (λ b. Opened m n a b back r after) front.1 (subst (λ x. Opened x n a (take k body) back r after) em o))
