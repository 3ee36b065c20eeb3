-- T1 and T2, and the state moved on
use borrow.Author.Rules.{rules}
use Rattle.rounds256.proofs.Parts.{round_made}
use Rattle.rounds256.proofs.round_at.Goals as goal

pub returns : goal.returns
returns c = (search round_made, search rules)
