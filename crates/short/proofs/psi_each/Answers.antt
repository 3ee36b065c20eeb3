use borrow.Author.Rules.{rules}
use Rattle.rules.proofs.Loops.{mapped_next}
use Rattle.short.proofs.psi_each.Goals as goal

pub loop-i-preserved : goal.loop-i-preserved
loop-i-preserved c = (search rules, search (rules, mapped_next))
