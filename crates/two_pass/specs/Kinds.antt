-- The kinds of blocks.
use Rattle.std.specs.Prelude.{ℕ}
use Rattle.two_pass.specs.declared.kinds.Kind.{Kind}
use Rattle.two_pass.specs.declared.kinds.Kind.TheVariants.{Page, Ad, FullPage, FullAd, ShortPage, ShortAd, Keystream}
use Rattle.two_pass.specs.declared.kinds.Kinds.{Kinds}

-- how many times L* go into the mask
abbrev pub number_of : Kind → ℕ
number_of Page = 0
number_of Ad = 1
number_of FullPage = 2
number_of FullAd = 3
number_of ShortPage = 4
number_of ShortAd = 5
number_of Keystream = 6

-- the kinds of the blocks of associated data, and of a page
abbrev pub ad_kinds : Kinds
ad_kinds = record { front = Ad; full = FullAd; short = ShortAd }

abbrev pub page_kinds : Kinds
page_kinds = record { front = Page; full = FullPage; short = ShortPage }
