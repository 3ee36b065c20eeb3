-- one share: its diagonal alone
use borrow.Author.Rules.{rules}
use Rattle.few.proofs.Laws.{row_of_one}
use Rattle.few.proofs.first_row.Goals as goal

pub returns-then-n-eq1 : goal.returns-then-n-eq1
returns-then-n-eq1 c = (search row_of_one, search rules)
