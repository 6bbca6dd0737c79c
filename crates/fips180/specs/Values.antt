-- What the variables a to h stand for, by what each word stands for.
use Rattle.std.specs.Prelude.{ℕ}
use Rattle.fips180.specs.declared.state.State.{State}

abbrev pub values : {T : Type 0} → (T → ℕ) → State T → State ℕ
values v s = record { a = v s.a; b = v s.b; c = v s.c; d = v s.d; e = v s.e; f = v s.f; g = v s.g; h = v s.h }
