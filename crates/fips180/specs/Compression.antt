-- FIPS 180-4, sections 6.2.2 and 6.4.2: the compression of a block into a chaining value.
use Rattle.std.specs.Prelude.{ℕ, zero, suc, ◌+◌, ◌-◌, List, [], ◌∷◌, ◌++◌, map, slice_index}
use Rattle.std.specs.List.{flat_map}
use Rattle.base.specs.Bytes.{number, digits, cut}
use Rattle.fips180.specs.declared.state.State.{State}
use Rattle.fips180.specs.Words.{Sizes, plus, ch, maj, big_sigma, small_sigma}

-- the words of a string of bytes
unfoldable pub words : Sizes → List ℕ → List ℕ
words z x = map number (cut z.bytes x)

-- W(t) = σ1(W(t−2)) + W(t−7) + σ0(W(t−15)) + W(t−16)
unfoldable pub word_at : Sizes → List ℕ → ℕ → ℕ
word_at z ws t =
    plus z (plus z (plus z (small_sigma z z.small1 (slice_index ws (t - 2)))
    (slice_index ws (t - 7)))
    (small_sigma z z.small0 (slice_index ws (t - 15))))
    (slice_index ws (t - 16))

-- the schedule: the sixteen words of a block, and n more
unfoldable pub schedule : Sizes → ℕ → List ℕ → List ℕ
schedule z zero ws = ws
schedule z (suc n) ws = schedule z n ws ++ word_at z (schedule z n ws) (n + 16) ∷ []

-- T1 = h + Σ1(e) + Ch(e, f, g) + K + W
abbrev pub t1 : Sizes → State ℕ → ℕ → ℕ → ℕ
t1 z s k w = plus z (plus z (plus z (plus z s.h (big_sigma z z.big1 s.e)) (ch z s.e s.f s.g)) k) w

-- T2 = Σ0(a) + Maj(a, b, c)
abbrev pub t2 : Sizes → State ℕ → ℕ
t2 z s = plus z (big_sigma z z.big0 s.a) (maj s.a s.b s.c)

-- one round, with its constant and its word of the schedule
unfoldable pub round : Sizes → State ℕ → ℕ → ℕ → State ℕ
round z s k w = record {
  h = s.g;
  g = s.f;
  f = s.e;
  e = plus z s.d (t1 z s k w);
  d = s.c;
  c = s.b;
  b = s.a;
  a = plus z (t1 z s k w) (t2 z s);
}

-- a round for each constant and word
unfoldable pub rounds : Sizes → State ℕ → List ℕ → List ℕ → State ℕ
rounds z s [] ws = s
rounds z s (k ∷ ks) [] = s
rounds z s (k ∷ ks) (w ∷ ws) = rounds z (round z s k w) ks ws

-- eight words as the variables a to h, and back
abbrev pub state_of : List ℕ → State ℕ
state_of ws = record {
  a = slice_index ws 0;
  b = slice_index ws 1;
  c = slice_index ws 2;
  d = slice_index ws 3;
  e = slice_index ws 4;
  f = slice_index ws 5;
  g = slice_index ws 6;
  h = slice_index ws 7;
}

abbrev pub listed : State ℕ → List ℕ
listed s = s.a ∷ s.b ∷ s.c ∷ s.d ∷ s.e ∷ s.f ∷ s.g ∷ s.h ∷ []

abbrev pub added : Sizes → State ℕ → State ℕ → State ℕ
added z s t = record {
  a = plus z s.a t.a;
  b = plus z s.b t.b;
  c = plus z s.c t.c;
  d = plus z s.d t.d;
  e = plus z s.e t.e;
  f = plus z s.f t.f;
  g = plus z s.g t.g;
  h = plus z s.h t.h;
}

-- the variables after all rounds, from the chaining value s, over the words of a block
abbrev pub worked : Sizes → State ℕ → List ℕ → State ℕ
worked z s ws = rounds z s z.constants (schedule z (z.rounds - 16) ws)

-- the chaining value after a block, from the chaining value h
unfoldable pub compressed : Sizes → List ℕ → List ℕ → List ℕ
compressed z h block =
    flat_map (digits z.bytes) (listed (added z (worked z (state_of (words z h)) (words z block)) (state_of (words z h))))

-- the same where the first half of the block is fixed: a map of the chaining value h and the second half m
unfoldable pub half_fixed : Sizes → List ℕ → List ℕ → List ℕ → List ℕ
half_fixed z half h m = compressed z h (half ++ m)
