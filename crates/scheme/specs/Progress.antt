-- How far sealing and opening have come: for the functions that measure, and no part of what they answer.
use Rattle.std.specs.Prelude.{◌≡◌, ℕ, ◌≤◌, List, length, None, Some, Option}
use Rattle.scheme.specs.declared.inputs.Inputs.{Inputs}
use Rattle.scheme.specs.declared.limits.Limits.{Limits}
use Rattle.scheme.specs.Meaning.{body_length}
use Rattle.scheme.specs.Answers.{Fault, input_fault, open_fault, seal_fault}

-- the inputs are nonce n and associated data a
abbrev pub Holds : Inputs → List ℕ → List ℕ → Type 0
Holds i n a = (i.nonce.now ≡ n) × (i.ad.now ≡ a)

-- nonce and associated data have this fault, whatever follows
abbrev pub InputFault : Limits → List ℕ → List ℕ → Fault → Type 0
InputFault l n a f = (next : Option Fault) → input_fault l n a next ≡ Some f

-- nonce and associated data are in order, so that what follows decides
pub record InputFits (l : Limits) (n a : List ℕ) : Type 0 where
  pub passes : (next : Option Fault) → input_fault l n a next ≡ next
  pub nonce : length n ≤ 31
  pub ad : length a ≤ l.ad

-- nothing speaks against sealing: k bytes are written
pub record MaySeal (l : Limits) (n a p : List ℕ) (room k : ℕ) : Type 0 where
  pub none : seal_fault l n a p room ≡ None
  pub long : k ≡ body_length l (length p)
  pub nonce : length n ≤ 31
  pub ad : length a ≤ l.ad
  pub page : length p ≤ l.page
  pub fits : k ≤ room

-- nothing speaks against opening: the page has k bytes
pub record MayOpen (l : Limits) (n a b : List ℕ) (room k : ℕ) : Type 0 where
  pub none : open_fault l n a b room ≡ None
  pub long : length b ≡ body_length l k
  pub nonce : length n ≤ 31
  pub ad : length a ≤ l.ad
  pub page : k ≤ l.page
  pub fits : k ≤ room
