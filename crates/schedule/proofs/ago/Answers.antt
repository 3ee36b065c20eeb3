-- word 16 − j of the window
use borrow.Author.Rules.{rules}
use Rattle.schedule.proofs.Parts.{ago_word}
use Rattle.schedule.proofs.ago.Goals as goal

pub returns : goal.returns
returns c = (search ago_word, search rules)
