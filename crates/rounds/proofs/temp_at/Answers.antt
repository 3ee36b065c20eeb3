-- f first, then the four sums in the rule's order
use borrow.Author.Rules.{rules}
use Rattle.rounds.proofs.Parts.{temp_made}
use Rattle.rounds.proofs.temp_at.Goals as goal

pub returns : goal.returns
returns c = (search temp_made, search rules)
