-- as many words as there are
use Rattle.few.proofs.Laws.{loaded_one, loaded_two, loaded_more}
use Rattle.few.proofs.load.Goals as goal

pub returns-then-n-eq1 : goal.returns-then-n-eq1
returns-then-n-eq1 c = search loaded_one

pub returns-then-n-eq2 : goal.returns-then-n-eq2
returns-then-n-eq2 c = search loaded_two

pub returns : goal.returns
returns c = search loaded_more
