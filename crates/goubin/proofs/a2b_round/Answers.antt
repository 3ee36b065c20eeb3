-- each step is the rule's, once what is held is the value itself
use Rattle.words.specs.Word.{shift}
use Rattle.rules.specs.Goubin.{a2b_round}
use Rattle.goubin.proofs.a2b_round.Goals as goal

pub returns : goal.returns
unfolding a2b_round shift
returns c = rw c.held_by_word-g2.ensures
