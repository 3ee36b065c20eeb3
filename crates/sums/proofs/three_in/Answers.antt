-- three sums, one after the other
use borrow.Author.Rules.{rules}
use Rattle.sums.proofs.Parts.{three_made}
use Rattle.sums.proofs.three_in.Goals as goal

pub returns : goal.returns
returns c = (search three_made, search rules)
