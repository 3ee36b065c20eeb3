use borrow.Author.Rules.{rules}
use Rattle.schedule.proofs.Parts.{mixed_next, mixed_end}
use Rattle.schedule.proofs.mixed.Goals as goal

pub loop-i-preserved : goal.loop-i-preserved
loop-i-preserved c = search (mixed_next, rules)

pub returns : goal.returns
returns c = search (mixed_end, rules)
