-- as many words as there is room for
use Rattle.few.proofs.Laws.{stored_one, stored_two, stored_more}
use Rattle.few.proofs.store.Goals as goal

pub returns-then-n-eq1 : goal.returns-then-n-eq1
returns-then-n-eq1 c = search stored_one

pub returns-then-n-eq2 : goal.returns-then-n-eq2
returns-then-n-eq2 c = search stored_two

pub returns : goal.returns
returns c = search stored_more
