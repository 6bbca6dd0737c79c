use Rattle.std.proofs.Common.{◌≡◌, ℕ, ◌-◌, ◌<◌, get_or}
use Rattle.mixer.specs.Mixer.{mixed_byte}
use Rattle.mixer.proofs.mix.Given as goal

-- the bytes below i are written
abbrev pub invariant-loop-i : goal.invariant-loop-i
invariant-loop-i l = (k : ℕ) → k < l.i → get_or l.out k 0 ≡ mixed_byte k (get_or l.h k 0) (get_or l.m (47 - k) 0)
