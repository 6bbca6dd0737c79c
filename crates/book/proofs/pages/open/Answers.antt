use Rattle.book.proofs.pages.open.Goals as goal

pub returns-in_err-println-clause-opened : goal.returns-in_err-println-clause-opened
returns-in_err-println-clause-opened g c = (c.«open».result, rw c.nonce.ensures at c.«open».ensures.opened)
