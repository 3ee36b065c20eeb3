use borrow.Author.Rules.{rules}
use Rattle.rules.proofs.Loops.{expand_next, expand_end}
use Rattle.shares.proofs.expand_at.Goals as goal

pub loop-i-preserved : goal.loop-i-preserved
loop-i-preserved c = (search rules, search (rules, expand_next))

pub returns : goal.returns
returns c = (search (rules, expand_end), search rules)
