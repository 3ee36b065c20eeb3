-- the rule's round, share by share
use borrow.Author.Rules.{rules}
use Rattle.words.specs.Word.{shift}
use Rattle.width.specs.Width.{bits}
use Rattle.few.proofs.Laws.{carries_two}
use Rattle.few.proofs.carry_two.Goals as goal

pub returns : goal.returns
unfolding shift
returns c = (search (carries_two bits), search rules)
