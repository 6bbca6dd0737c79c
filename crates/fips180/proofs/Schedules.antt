-- The schedule and the rounds, one turn after the other.
use Rattle.std.proofs.Common.{◌≡◌, ℕ, zero, suc, ◌+◌, ◌-◌, ◌<◌, ◌≤◌, List, [], ◌∷◌, ◌++◌, map, length, get_or, take, drop, set, le_of_suc-le-suc, ◌⊎◌, inl, inr, sym, refl, ap, ◌∙◌, ap₂, subst, add-one, arith}
use Rattle.std.proofs.lemmas.List.{get_or-take, take_more, take_more_set, take-set-le, length-take-le, take_all}
use Rattle.fips180.specs.Words.{Sizes}
use Rattle.fips180.specs.Compression.{word_at, schedule, round, rounds, worked}
use Rattle.fips180.specs.declared.state.State.{State}

-- the word at t depends on the words before it alone
word-take : (z : Sizes) (w : List ℕ) (t : ℕ) → 16 ≤ t → word_at z (take t w) t ≡ word_at z w t
unfolding word_at
word-take z w t h =
    let a : t - 2 < t = omega arith in
    let b : t - 7 < t = omega arith in
    let c : t - 15 < t = omega arith in
    let d : t - 16 < t = omega arith in
    simp get_or-take

schedule-suc : (z : Sizes) (ws : List ℕ) (n : ℕ) → schedule z (n + 1) ws ≡ schedule z n ws ++ word_at z (schedule z n ws) (n + 16) ∷ []
unfolding schedule
schedule-suc z ws n = rw add-one

schedule_more : (z : Sizes) (w ws : List ℕ) (n v : ℕ) → n + 16 < length w → v ≡ word_at z w (n + 16)
    → take (n + 16) w ≡ schedule z n ws → take (n + 1 + 16) (set w (n + 16) v) ≡ schedule z (n + 1) ws
schedule_more z w ws n v h e inv =
    let i : n + 1 + 16 ≡ n + 16 + 1 = omega arith in
    let s = take_more_set w (n + 16) v h in
    let m : word_at z (take (n + 16) w) (n + 16) ≡ word_at z w (n + 16) = word-take z w (n + 16) (omega arith) in
    let g = schedule-suc z ws n in
    cc

rounds_push : (z : Sizes) (s : State ℕ) (ks ws : List ℕ) (k w : ℕ) → length ks ≡ length ws → rounds z s (ks ++ k ∷ []) (ws ++ w ∷ []) ≡ round z (rounds z s ks ws) k w
unfolding rounds
rounds_push z s [] [] k w e = refl
rounds_push z s [] (y ∷ ws) k w e = cc
rounds_push z s (x ∷ ks) [] k w e = cc
rounds_push z s (x ∷ ks) (y ∷ ws) k w e = rounds_push z (round z s x y) ks ws k w (let h : suc (length ks) ≡ suc (length ws) = e in omega arith)

-- the state after the first t rounds
pub record After (z : Sizes) (start : State ℕ) (ks ws : List ℕ) (t : ℕ) (s : State ℕ) : Type 0 where
  pub is : s ≡ rounds z start (take t ks) (take t ws)

pub after_none : (z : Sizes) (start : State ℕ) (ks ws : List ℕ) → After z start ks ws 0 start
unfolding rounds
after_none z start ks ws = record { is = refl }

pub after_more : (z : Sizes) (start : State ℕ) (ks ws : List ℕ) (t : ℕ) {s u : State ℕ} → t < length ks → t < length ws → u ≡ round z s (get_or ks t 0) (get_or ws t 0)
    → After z start ks ws t s → After z start ks ws (t + 1) u
after_more z start ks ws t {s} {u} hk hw e a =
    let l : length (take t ks) ≡ length (take t ws) = length-take-le t ks (omega arith) ∙ sym (length-take-le t ws (omega arith)) in
    let p = rounds_push z start (take t ks) (take t ws) (get_or ks t 0) (get_or ws t 0) l in
    record { is = e ∙ ap (λ (v : State ℕ). round z v (get_or ks t 0) (get_or ws t 0)) a.is ∙ sym p ∙ sym (ap₂ (rounds z start) (take_more ks t 0 hk) (take_more ws t 0 hw)) }

-- a loop that goes on: the schedule stands up to t + 16, and the state after t rounds
pub record Going (z : Sizes) (start : State ℕ) (ks block ws : List ℕ) (t : ℕ) (s : State ℕ) : Type 0 where
  pub words : take (t + 16) ws ≡ schedule z t block
  pub state : After z start ks ws t s

pub going_none : (z : Sizes) (start : State ℕ) (ks block ws : List ℕ) → take 16 ws ≡ block → Going z start ks block ws 0 start
unfolding schedule
going_none z start ks block ws e = record { words = e; state = after_none z start ks ws }

-- a word written behind the first t leaves them
after_set : (z : Sizes) (start : State ℕ) (ks ws : List ℕ) (t i v : ℕ) {s : State ℕ} → t ≤ i → After z start ks ws t s → After z start ks (set ws i v) t s
after_set z start ks ws t i v h a = record { is = a.is ∙ ap (rounds z start (take t ks)) (sym (take-set-le t ws i v h)) }

pub going_more : (z : Sizes) (start : State ℕ) (ks block ws : List ℕ) (t v : ℕ) {s u : State ℕ} → t < length ks → t + 16 < length ws
    → u ≡ round z s (get_or ks t 0) (get_or ws t 0) → v ≡ word_at z ws (t + 16) → Going z start ks block ws t s → Going z start ks block (set ws (t + 16) v) (t + 1) u
going_more z start ks block ws t v hk hw eu ev g = record {
  words = schedule_more z ws block t v hw ev g.words;
  state = after_set z start ks ws (t + 1) (t + 16) v (omega arith) (after_more z start ks ws t hk (omega arith) eu g.state);
}

-- the rounds in two parts
rounds_split : (z : Sizes) (s : State ℕ) (n : ℕ) (ks ws : List ℕ) → n ≤ length ks → n ≤ length ws → rounds z (rounds z s (take n ks) (take n ws)) (drop n ks) (drop n ws) ≡ rounds z s ks ws
unfolding rounds
rounds_split z s zero ks ws hk hw = refl
rounds_split z s (suc n) [] ws hk hw = absurd (let h : suc n ≤ 0 = hk in omega arith)
rounds_split z s (suc n) (k ∷ ks) [] hk hw = absurd (let h : suc n ≤ 0 = hw in omega arith)
rounds_split z s (suc n) (k ∷ ks) (w ∷ ws) hk hw = rounds_split z (round z s k w) n ks ws (le_of_suc-le-suc hk) (le_of_suc-le-suc hw)

-- the schedule is whole
pub going_all : (z : Sizes) (start : State ℕ) (ks block ws : List ℕ) (t : ℕ) {s : State ℕ} → length ws ≡ z.rounds → 16 ≤ z.rounds → t ≡ z.rounds - 16 → Going z start ks block ws t s → ws ≡ schedule z (z.rounds - 16) block
going_all z start ks block ws t lw h et g = sym (take_all (t + 16) ws (omega arith)) ∙ g.words ∙ ap (λ (i : ℕ). schedule z i block) et

-- all rounds are done
pub after_all : (z : Sizes) (start : State ℕ) (block ws : List ℕ) (n t : ℕ) {s m : State ℕ} → length z.constants ≡ z.rounds → length ws ≡ z.rounds → 16 ≤ z.rounds
    → n ≡ z.rounds - 16 → t ≡ z.rounds → Going z start z.constants block ws n m → After z start z.constants ws t s → s ≡ worked z start block
after_all z start block ws n t {s} {m} lk lw h en et g a =
    let k : take t z.constants ≡ z.constants = take_all t z.constants (omega arith) in
    let w : take t ws ≡ ws = take_all t ws (omega arith) in
    a.is ∙ ap₂ (rounds z start) k (w ∙ going_all z start z.constants block ws n lw h en g)

-- the schedule is whole: with the rounds that are left, all are done
pub after_front : (z : Sizes) (start : State ℕ) (block ws : List ℕ) (n t : ℕ) {s : State ℕ} → length z.constants ≡ z.rounds → length ws ≡ z.rounds → 16 ≤ z.rounds
    → n ≡ z.rounds - 16 → t ≡ n → Going z start z.constants block ws t s → rounds z s (drop n z.constants) (drop n ws) ≡ worked z start block
after_front z start block ws n t {s} lk lw h en et g =
    let k : take z.rounds z.constants ≡ z.constants = take_all z.rounds z.constants (omega arith) in
    let w : take z.rounds ws ≡ ws = take_all z.rounds ws (omega arith) in
    let split = rounds_split z start t z.constants ws (omega arith) (omega arith) in
    let left : rounds z s (drop n z.constants) (drop n ws) ≡ rounds z start z.constants ws = rw (← et) (ap (λ (v : State ℕ). rounds z v (drop t z.constants) (drop t ws)) g.state.is ∙ split) in
    let whole : After z start z.constants ws z.rounds (rounds z s (drop n z.constants) (drop n ws)) = record { is = left ∙ sym (ap₂ (rounds z start) k w) } in
    after_all z start block ws n z.rounds lk lw h en refl (subst (λ i. Going z start z.constants block ws i s) et g) whole

-- one round of them
pub rounds_more : (z : Sizes) (s u : State ℕ) (k w : ℕ) (ks ws ks' ws' : List ℕ) → u ≡ round z s k w → ks ≡ k ∷ ks' → ws ≡ w ∷ ws' → rounds z s ks ws ≡ rounds z u ks' ws'
unfolding rounds
rounds_more z s u k w ks ws ks' ws' e ek ew = rw (ek, ew, e)

-- no more
pub rounds_end : {X : Type 0} (z : Sizes) (f : X → ℕ) (s : State ℕ) (ks ws : List X) → (ks ≡ []) ⊎ (ws ≡ []) → rounds z s (map f ks) (map f ws) ≡ s
unfolding rounds
rounds_end z f s [] ws e = refl
rounds_end z f s (k ∷ ks) [] e = refl
rounds_end z f s (k ∷ ks) (w ∷ ws) (inl e) = cc
rounds_end z f s (k ∷ ks) (w ∷ ws) (inr e) = cc
