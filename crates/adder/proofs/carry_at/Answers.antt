use borrow.Author.Rules.{rules}
use Rattle.rules.proofs.Loops.{parts_end, carries_next, carries_end}
use Rattle.adder.proofs.carry_at.Goals as goal

pub loop-preserved : goal.loop-preserved
loop-preserved c = (search rules, search (rules, carries_next))

pub returns : goal.returns
returns c = (search (rules, carries_end), search (rules, parts_end))
