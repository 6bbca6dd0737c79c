-- The numbers of the causes, as they are printed.
use Rattle.std.specs.Prelude.{ℕ, List, ◌∷◌, ◌++◌, codes}
use Rattle.std.specs.Fmt.{decimal}
use Rattle.base.specs.declared.refusal.Cause.{Cause}
use Rattle.base.specs.declared.refusal.Cause.TheVariants.{KeyLength, TagLength, NonceLength, AdTooLong, PageTooLong, BodyTooShort, OutputTooShort, NotGenuine, CardTooLong, PageOverRecord, LastPlace, PartLength, RecordForm, WrongPlace, VolumeClosed}
use Rattle.base.specs.declared.refusal.Refusal.{Refusal}

abbrev pub number_of : Cause → ℕ
number_of KeyLength = 1
number_of TagLength = 2
number_of NonceLength = 3
number_of AdTooLong = 4
number_of PageTooLong = 5
number_of BodyTooShort = 6
number_of OutputTooShort = 7
number_of NotGenuine = 8
number_of CardTooLong = 9
number_of PageOverRecord = 10
number_of LastPlace = 11
number_of PartLength = 12
number_of RecordForm = 13
number_of WrongPlace = 14
number_of VolumeClosed = 15

-- a refusal: its cause, the layer that found it, and its figure
abbrev pub refusal : Cause → ℕ → ℕ → Refusal
refusal c l f = record { cause = c; layer = l; figure = f }

-- a refusal in print, as `no 8 1 0`
abbrev pub shown : Refusal → List ℕ
shown e = codes "no " ++ decimal (number_of e.cause) ++ 32 ∷ decimal e.layer ++ 32 ∷ decimal e.figure
