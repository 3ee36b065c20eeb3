-- d + T1 first, then T1 + T2
use borrow.Author.Rules.{rules}
use Rattle.rounds256.proofs.Parts.{ends_made}
use Rattle.rounds256.proofs.ends_at.Goals as goal

pub returns : goal.returns
returns c = (search ends_made, search rules)
