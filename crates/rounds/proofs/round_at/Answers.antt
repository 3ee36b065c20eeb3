-- the sum of a round, then the state moved on, are one round of the rule
use borrow.Author.Rules.{rules}
use Rattle.rounds.proofs.Parts.{round_made}
use Rattle.rounds.proofs.round_at.Goals as goal

pub returns : goal.returns
returns c = (search round_made, search rules)
