-- A pass over the blocks, turn by turn.
use Rattle.std.proofs.Common.{◌≡◌, ℕ, suc, ◌<◌, ◌≤◌, List, [], ◌++◌, length, refl, ap, ◌∙◌, arith}
use Rattle.std.proofs.lemmas.List.{append_assoc, append-nil, length-append}
use Rattle.base.specs.Bytes.{xor}
use Rattle.base.specs.Bytes.{cut}
use Rattle.frames.specs.Chain.{chain, ended}
use Rattle.frames.specs.Progress.{Done}
use Rattle.base.proofs.Cuts.{cut_more, cut-append, cut_last}

module _ (w : ℕ) (z : 0 < w) (next : ℕ → List ℕ → List ℕ → List ℕ) (h0 : List ℕ) where
  pub done_none : Done w next h0 [] [] 1 h0
  done_none = record { enciphers = λ rest. refl; ends = λ last rest l. refl }

  ended_more : (last : ℕ → List ℕ → List ℕ → List ℕ) (i : ℕ) (h p rest : List ℕ) → length p ≡ w → 0 < length rest → ended next last i h (cut w (p ++ rest)) ≡ ended next last (suc i) (next i h p) (cut w rest)
  ended_more last i h p rest e l = rw (cut-append w z p rest e, cut_more w z rest l)

  pub done_more : (page cipher p : List ℕ) (i : ℕ) (h : List ℕ) → length p ≡ w → Done w next h0 page cipher i h → Done w next h0 (page ++ p) (cipher ++ xor p h) (suc i) (next i h p)
  done_more page cipher p i h e d =
      record {
        enciphers = λ rest. rw (append_assoc page p rest, append_assoc cipher (xor p h)) (d.enciphers (p ++ rest) ∙ ap (λ t. cipher ++ chain next i h t) (cut-append w z p rest e));
        ends = λ last rest l. let k : 0 < length (p ++ rest) = simp length-append (omega arith) in rw (append_assoc page p rest) (d.ends last (p ++ rest) k ∙ ended_more last i h p rest e l);
      }

  -- the last block
  pub done_last : (page cipher p : List ℕ) (i : ℕ) (h : List ℕ) → 0 < length p → length p ≤ w → Done w next h0 page cipher i h → chain next 1 h0 (cut w (page ++ p)) ≡ cipher ++ xor p h
  done_last page cipher p i h l m d = d.enciphers p ∙ rw (cut_last w z p l m, append-nil)

  pub ended_last : (last : ℕ → List ℕ → List ℕ → List ℕ) (page cipher p : List ℕ) (i : ℕ) (h : List ℕ) → 0 < length p → length p ≤ w → Done w next h0 page cipher i h → ended next last 1 h0 (cut w (page ++ p)) ≡ last i h p
  ended_last last page cipher p i h l m d = d.ends last p l ∙ rw (cut_last w z p l m)
