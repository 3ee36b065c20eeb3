-- one draw, as the rule walks the pairs
use borrow.Author.Rules.{rules}
use Rattle.few.proofs.Laws.{row_of_two}
use Rattle.few.proofs.row_of_two.Goals as goal

pub returns : goal.returns
returns c = (search row_of_two, search rules)
