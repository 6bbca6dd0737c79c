-- A scheme that hands on to the scheme below, with other associated data and a limit of its own.
use Rattle.std.specs.Prelude.{◌≡◌, ℕ, ◌≤◌, Bool, true, false, cond, ltb, List, length, take, IfErr, Some, None, Ok, Err, Option, Result, ◌==◌, refl}
use Rattle.std.proofs.Common.{sym, ap, subst, ◌∙◌, arith}
use Rattle.std.proofs.lemmas.Bool.{le-ltb}
use Rattle.std.proofs.lemmas.Grind.{common_steps}
use Rattle.base.specs.Refusals.{number_of}
use Rattle.base.specs.declared.refusal.Cause.{Cause}
use Rattle.base.specs.declared.refusal.Refusal.{Refusal}
use Rattle.scheme.specs.Meaning.{Meaning, Lawful, Page, Takes}
use Rattle.scheme.specs.Answers.{Fault, Opened, Sealed, Shut, open_fault, seal_fault}

-- m, given f a in the place of a, which has at most `longest` bytes
abbrev pub handing : ℕ → (List ℕ → List ℕ) → Meaning → Meaning
handing longest f m = record {
  limits = record { tag = m.limits.tag; ad = longest; page = m.limits.page };
  end = m.end;
  E = λ n a p. m.E n (f a) p;
}

-- too much associated data is named by this layer, every other cause by the scheme below
abbrev pub own_layer : ℕ → (Cause → ℕ → Bool) → Cause → ℕ → Bool
own_layer layer below c l = cond (number_of c == 4) (l == layer) (below c l)

module _ (longest : ℕ) (f : List ℕ → List ℕ) (m : Meaning) (within : (a : List ℕ) → length a ≤ longest → length (f a) ≤ m.limits.ad) where
  takes : (n a : List ℕ) → Takes (handing longest f m) n a → Takes m n (f a)
  takes n a t = record { nonce_low = t.nonce_low; nonce_high = t.nonce_high; ad_high = within a t.ad_high }

  page_below : (p : List ℕ) → Page (handing longest f m) p → Page m p
  page_below p g = record { bytes = g.bytes; short = g.short }

  page_above : (p : List ℕ) → Page m p → Page (handing longest f m) p
  page_above p g = record { bytes = g.bytes; short = g.short }

  -- the law from the law below
  pub lawful : longest ≤ 1024 → Lawful m → Lawful (handing longest f m)
  lawful h law = record {
    tag_low = law.tag_low;
    tag_high = law.tag_high;
    ad_high = h;
    page_high = law.page_high;
    longer = λ n a p t g. law.longer n (f a) p (takes n a t) (page_below p g);
    one_page = λ n a p q t g h e. law.one_page n (f a) p q (takes n a t) (page_below p g) (page_below q h) e;
  }

  -- a fits here, and the scheme below was given f a
  module _ (n a given : List ℕ) (fits : length a ≤ longest) (is : given ≡ f a) where
    here : ltb longest (length a) ≡ false
    here = le-ltb longest (length a) fits

    below : ltb m.limits.ad (length given) ≡ false
    below = le-ltb m.limits.ad (length given) (rw is (within a fits))

    -- every fault is found by the scheme below
    seal_same : (p : List ℕ) (room : ℕ) → seal_fault (handing longest f m).limits n a p room ≡ seal_fault m.limits n given p room
    seal_same p room = simp (here, below)

    open_same : (b : List ℕ) (room : ℕ) → open_fault (handing longest f m).limits n a b room ≡ open_fault m.limits n given b room
    open_same b room = simp (here, below)

    pub sealed_above : (p before after : List ℕ) (r : Result ℕ Refusal) → Sealed m n given p before r after → Sealed (handing longest f m) n a p before r after
    sealed_above p before after (Ok i) s = record { may = seal_same p (length before) ∙ s.may; long = s.long; body = rw is at s.body }
    sealed_above p before after (Err e) s = record { says = seal_same p (length before) ∙ s.says; same = s.same }

    shut_above : (b before after : List ℕ) (e : Refusal) (w : Option Fault) → Shut m n given b before e after w → Shut (handing longest f m) n a b before e after w
    shut_above b before after e (Some fault) s = s
    shut_above b before after e None s = record {
      says = s.says;
      none = λ p o. s.none p (record { page = page_below p o.page; gives = ap (λ t. m.E n t p) is ∙ o.gives });
      zeroed = s.zeroed;
    }

    pub opened_above : (b before after : List ℕ) (r : Result ℕ Refusal) → Opened m n given b before r after → Opened (handing longest f m) n a b before r after
    opened_above b before after (Ok i) s = record {
      may = open_same b (length before) ∙ s.may;
      long = s.long;
      opens = record { page = page_above (take i after) s.opens.page; gives = ap (λ t. m.E n t (take i after)) (sym is) ∙ s.opens.gives };
      behind = s.behind;
    }
    opened_above b before after (Err e) s = subst (Shut (handing longest f m) n a b before e after) (sym (open_same b (length before))) (shut_above b before after e (open_fault m.limits n given b (length before)) s)

    -- too much associated data is never said by the scheme below, so that its layer stands
    module _ (layer : ℕ) (names : Cause → ℕ → Bool) where
      pub seal_layer : (p before after : List ℕ) (r : Result ℕ Refusal) → Sealed m n given p before r after → IfErr r (λ e. names e.cause e.layer ≡ true) → IfErr r (λ e. own_layer layer names e.cause e.layer ≡ true)
      seal_layer p before after (Ok i) s y = y
      seal_layer p before after (Err e) s y = let says = s.says in grind (arith, common_steps, below)

      shut_layer : (b before after : List ℕ) (e : Refusal) (w : Option Fault) → w ≡ open_fault m.limits n given b (length before) → Shut m n given b before e after w → names e.cause e.layer ≡ true → own_layer layer names e.cause e.layer ≡ true
      shut_layer b before after e (Some fault) is s y = let says = s.says in grind (arith, common_steps, below)
      shut_layer b before after e None is s y = let says = s.says in grind (arith, common_steps)

      pub open_layer : (b before after : List ℕ) (r : Result ℕ Refusal) → Opened m n given b before r after → IfErr r (λ e. names e.cause e.layer ≡ true) → IfErr r (λ e. own_layer layer names e.cause e.layer ≡ true)
      open_layer b before after (Ok i) s y = y
      open_layer b before after (Err e) s y = shut_layer b before after e (open_fault m.limits n given b (length before)) refl s y
