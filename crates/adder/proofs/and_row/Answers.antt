use borrow.Author.Rules.{rules}
use Rattle.rules.proofs.Loops.{along_next, along_end}
use Rattle.adder.proofs.and_row.Goals as goal

pub loop-j-preserved : goal.loop-j-preserved
loop-j-preserved c = (search rules, search along_next)

pub returns : goal.returns
returns c = (search along_end, search rules)
