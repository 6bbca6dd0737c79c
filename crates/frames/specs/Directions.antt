-- Which of two strings is the page, and which its ciphertext, where one is read and the other written.
use Rattle.frames.specs.declared.rule.Direction.{Direction}
use Rattle.frames.specs.declared.rule.Direction.TheVariants.{Seal, Open}

abbrev pub page_of : {X : Type 0} → Direction → X → X → X
page_of Seal source target = source
page_of Open source target = target

abbrev pub cipher_of : {X : Type 0} → Direction → X → X → X
cipher_of Seal source target = target
cipher_of Open source target = source
