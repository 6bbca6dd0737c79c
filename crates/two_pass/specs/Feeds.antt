-- What feeds each keystream behind its first block.
use Rattle.compression.specs.declared.part.Part.{Part}
use Rattle.frames.specs.declared.rule.Feed.{Feed}
use Rattle.frames.specs.declared.rule.Feed.TheVariants.{Page, Fixed}
use Rattle.two_pass.specs.declared.keystream.Keystream.{Keystream}
use Rattle.two_pass.specs.declared.keystream.Keystream.TheVariants.{Serial, Counter}

-- the page, or V and ⟨8τ⟩ again
abbrev pub feed_of : {X : Type 0} {g : _} → Keystream → Part X g → Part X g → Feed X g
feed_of Serial v bits = Page
feed_of Counter v bits = Fixed v bits
