-- What sealing and opening answer, and what they leave in the output.
use Rattle.std.specs.Prelude.{◌≡◌, ℕ, cond, ◌&&◌, List, ◌++◌, length, take, drop, Some, None, Ok, Err, Option, Result, nat_le, nat_lt}
use Rattle.base.specs.Bytes.{zeros}
use Rattle.base.specs.Refusals.{refusal}
use Rattle.base.specs.declared.refusal.Cause.{Cause}
use Rattle.base.specs.declared.refusal.Cause.TheVariants.{TagLength, AdTooLong, NonceLength, PageTooLong, BodyTooShort, OutputTooShort, NotGenuine}
use Rattle.base.specs.declared.refusal.Refusal.{Refusal}
use Rattle.scheme.specs.declared.limits.Limits.{Limits}
use Rattle.scheme.specs.Meaning.{Meaning, Page, body_length, page_length}

-- what setting a mode's tag length to n answers, where its width is w
abbrev pub tag_answer : ℕ → ℕ → Result (Unit {0}) Refusal
tag_answer w n = cond (nat_le 4 n && nat_le n w) (Ok tt) (Err (refusal TagLength 1 n))

-- a cause and its figure
abbrev pub Fault : Type 0
Fault = Cause × ℕ

abbrev pub said : Refusal → Fault
said e = (e.cause, e.figure)

-- the first fault of nonce n and associated data a, or else what follows
abbrev pub input_fault : Limits → List ℕ → List ℕ → Option Fault → Option Fault
input_fault l n a next =
    cond (nat_lt l.ad (length a)) (Some (AdTooLong, length a))
    (cond (nat_lt (length n) 12) (Some (NonceLength, length n))
    (cond (nat_lt 31 (length n)) (Some (NonceLength, length n))
    next))

-- the first fault in sealing page p into `room` bytes
abbrev pub seal_fault : Limits → List ℕ → List ℕ → List ℕ → ℕ → Option Fault
seal_fault l n a p room =
    input_fault l n a
    (cond (nat_lt l.page (length p)) (Some (PageTooLong, length p))
    (cond (nat_lt room (body_length l (length p))) (Some (OutputTooShort, body_length l (length p)))
    None))

-- the first fault in opening body b into `room` bytes, whatever was sealed
abbrev pub open_fault : Limits → List ℕ → List ℕ → List ℕ → ℕ → Option Fault
open_fault l n a b room =
    input_fault l n a
    (cond (nat_lt (length b) l.tag) (Some (BodyTooShort, length b))
    (cond (nat_lt (body_length l l.page) (length b)) (Some (PageTooLong, length b))
    (cond (nat_lt room (page_length l (length b))) (Some (OutputTooShort, page_length l (length b)))
    None)))

-- what stands in the output after a fault: what stood there
pub record Unchanged (e : Refusal) (fault : Fault) (before after : List ℕ) : Type 0 where
  pub says : said e ≡ fault
  pub same : after ≡ before

-- a page was sealed: its body in front, and then what stood there
pub record Wrote (m : Meaning) (n a p before : List ℕ) (k : ℕ) (after : List ℕ) : Type 0 where
  pub may : seal_fault m.limits n a p (length before) ≡ None
  pub long : k ≡ body_length m.limits (length p)
  pub body : after ≡ m.E n a p ++ drop k before

-- a refusal to seal
pub record Refused (m : Meaning) (n a p before : List ℕ) (e : Refusal) (after : List ℕ) : Type 0 where
  pub says : seal_fault m.limits n a p (length before) ≡ Some (said e)
  pub same : after ≡ before

abbrev pub Sealed : Meaning → (n a p before : List ℕ) → Result ℕ Refusal → List ℕ → Type 0
Sealed m n a p before (Ok k) after = Wrote m n a p before k after
Sealed m n a p before (Err e) after = Refused m n a p before e after

-- page p is what body b was sealed from
pub record Opens (m : Meaning) (n a b p : List ℕ) : Type 0 where
  pub page : Page m p
  pub gives : m.E n a p ≡ b

-- a body was opened: its page in front, and then what stood there
pub record Gave (m : Meaning) (n a b before : List ℕ) (k : ℕ) (after : List ℕ) : Type 0 where
  pub may : open_fault m.limits n a b (length before) ≡ None
  pub long : k ≡ page_length m.limits (length b)
  pub opens : Opens m n a b (take k after)
  pub behind : drop k after ≡ drop k before

-- no page was sealed to b: zeros as far as its page would reach, and then what stood there
pub record Zeroed (m : Meaning) (n a b before : List ℕ) (e : Refusal) (after : List ℕ) : Type 0 where
  pub says : said e ≡ (NotGenuine, 0)
  pub none : (p : List ℕ) → Opens m n a b p → ⊥
  pub zeroed : after ≡ zeros (page_length m.limits (length b)) ++ drop (page_length m.limits (length b)) before

-- a refusal to open, by the first fault
abbrev pub Shut : Meaning → (n a b before : List ℕ) → Refusal → List ℕ → Option Fault → Type 0
Shut m n a b before e after (Some fault) = Unchanged e fault before after
Shut m n a b before e after None = Zeroed m n a b before e after

abbrev pub Opened : Meaning → (n a b before : List ℕ) → Result ℕ Refusal → List ℕ → Type 0
Opened m n a b before (Ok k) after = Gave m n a b before k after
Opened m n a b before (Err e) after = Shut m n a b before e after (open_fault m.limits n a b (length before))
