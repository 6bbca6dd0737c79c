-- A page that was opened into the output's front.
use Rattle.std.proofs.Common.{◌≡◌, ℕ, ◌<◌, List, ◌++◌, length, drop, get_or, ap, ◌∙◌, arith}
use Rattle.std.proofs.ByRecursion.{All-from_get_or, All-take}
use Rattle.std.proofs.lemmas.List.{take_at, drop_at}
use Rattle.scheme.specs.Meaning.{Meaning}
use Rattle.scheme.specs.Answers.{Gave}
use Rattle.scheme.specs.Progress.{MayOpen}

pub gave : (m : Meaning) (n a b old page : List ℕ) (k : ℕ) → MayOpen m.limits n a b (length old) k → length page ≡ k → m.E n a page ≡ b → ((i : ℕ) → get_or (page ++ drop k old) i 0 < 256) → Gave m n a b old k (page ++ drop k old)
gave m n a b old page k may lp e small =
    let f = take_at page (drop k old) k lp in
    let long = may.long in
    let short = may.page in
    record {
      may = may.none;
      long = omega arith;
      opens = record {
        page = record { bytes = All-take (λ x. x < 256) k (page ++ drop k old) (All-from_get_or (λ x. x < 256) _ 0 (λ i h. small i)); short = rw f (omega arith) };
        gives = ap (m.E n a) f ∙ e;
      };
      behind = drop_at page (drop k old) k lp;
    }
