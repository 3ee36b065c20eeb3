-- three draws, as the rule walks the pairs
use borrow.Author.Rules.{rules}
use Rattle.few.proofs.Laws.{row_of_four}
use Rattle.few.proofs.row_of_four.Goals as goal

pub returns : goal.returns
returns c = (search row_of_four, search rules)
