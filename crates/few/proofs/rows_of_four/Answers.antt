-- three draws, as the rule walks the pairs
use borrow.Author.Rules.{rules}
use Rattle.few.proofs.Laws.{others_of_four}
use Rattle.few.proofs.rows_of_four.Goals as goal

pub returns : goal.returns
returns c = (search others_of_four, search rules)
