-- What a scheme means: its limits, the tag's end, and the map from a page to its body.
use Rattle.std.specs.Prelude.{◌≡◌, ℕ, ◌+◌, ◌-◌, ◌≤◌, List, length, take, drop}
use Rattle.base.specs.Bytes.{Bytes}
use Rattle.scheme.specs.declared.limits.End.{End}
use Rattle.scheme.specs.declared.limits.End.TheVariants.{Front, Back}
use Rattle.scheme.specs.declared.limits.Limits.{Limits}

pub record Meaning : Type 0 where
  pub limits : Limits
  pub end : End
  -- E(n, a, p): the body of page p under nonce n and associated data a
  pub E : List ℕ → List ℕ → List ℕ → List ℕ

-- the length of the body of a page of n bytes
abbrev pub body_length : Limits → ℕ → ℕ
body_length l n = n + l.tag

-- the length of the page in a body of n bytes
abbrev pub page_length : Limits → ℕ → ℕ
page_length l n = n - l.tag

-- the tag within a body
abbrev pub tag_part : End → ℕ → List ℕ → List ℕ
tag_part Front t b = take t b
tag_part Back t b = drop (length b - t) b

abbrev pub tag_of : Meaning → List ℕ → List ℕ
tag_of m b = tag_part m.end m.limits.tag b

-- a nonce and associated data that the scheme takes
pub record Takes (m : Meaning) (n a : List ℕ) : Type 0 where
  pub nonce_low : 12 ≤ length n
  pub nonce_high : length n ≤ 31
  pub ad_high : length a ≤ m.limits.ad

-- a page that the scheme takes
pub record Page (m : Meaning) (p : List ℕ) : Type 0 where
  pub bytes : Bytes p
  pub short : length p ≤ m.limits.page

-- the law of a scheme
pub record Lawful (m : Meaning) : Type 0 where
  pub tag_low : 4 ≤ m.limits.tag
  pub tag_high : m.limits.tag ≤ 64
  pub ad_high : m.limits.ad ≤ 1024
  pub page_high : m.limits.page ≤ 4096
  pub longer : (n a p : List ℕ) → Takes m n a → Page m p → length (m.E n a p) ≡ body_length m.limits (length p)
  pub one_page : (n a p q : List ℕ) → Takes m n a → Page m p → Page m q → m.E n a p ≡ m.E n a q → p ≡ q

-- a mode's meaning: it takes associated data of 1,024 and pages of 4,096 bytes
abbrev pub mode_limits : ℕ → Limits
mode_limits tag = record { tag = tag; ad = 1024; page = 4096 }

abbrev pub mode : ℕ → End → (List ℕ → List ℕ → List ℕ → List ℕ) → Meaning
mode tag end E = record { limits = mode_limits tag; end = end; E = E }
