use borrow.Author.Rules.{rules}
use Rattle.rules.proofs.Loops.{next_next, next_end}
use Rattle.shares.proofs.draw_each.Goals as goal

pub loop-i-preserved : goal.loop-i-preserved
loop-i-preserved c = (search rules, search (rules, next_next))

pub returns : goal.returns
returns c = (search (rules, next_end), search rules)
