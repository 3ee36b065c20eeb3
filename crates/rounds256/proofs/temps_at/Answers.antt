-- Ch, Maj, T1, T2, in this order
use borrow.Author.Rules.{rules}
use Rattle.rounds256.proofs.Parts.{temps_made}
use Rattle.rounds256.proofs.temps_at.Goals as goal

pub returns : goal.returns
returns c = (search temps_made, search rules)
