-- A scheme that takes little associated data.
use Rattle.std.specs.Prelude.{ℕ, min, Bool, cond, ◌==◌}
use Rattle.base.specs.Refusals.{number_of}
use Rattle.base.specs.declared.refusal.Cause.{Cause}
use Rattle.base.specs.declared.refusal.Cause.TheVariants.{AdTooLong}
use Rattle.scheme.specs.Meaning.{Meaning}

-- as m, with associated data of at most 5 bytes
abbrev pub narrowed : Meaning → Meaning
narrowed m = record {
  limits = record { tag = m.limits.tag; ad = min m.limits.ad 5; page = m.limits.page };
  end = m.end;
  E = m.E;
}

-- too much associated data is found here, at a layer number of its own
abbrev pub narrow_layers : (Cause → ℕ → Bool) → Cause → ℕ → Bool
narrow_layers below c layer = cond (number_of c == number_of AdTooLong) (layer == 9) (below c layer)
