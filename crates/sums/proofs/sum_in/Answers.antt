-- four sums, one after the other
use borrow.Author.Rules.{rules}
use Rattle.sums.proofs.Parts.{summed_made}
use Rattle.sums.proofs.sum_in.Goals as goal

pub returns : goal.returns
returns c = (search summed_made, search rules)
