use borrow.Author.Rules.{rules}
use Rattle.width.specs.Width.{bits}
use Rattle.rules.proofs.Loops.{negatives_next, negatives_end}
use Rattle.convert.proofs.negate_each.Goals as goal

pub loop-i-preserved : goal.loop-i-preserved
loop-i-preserved c = search (rules, negatives_next bits)

pub returns : goal.returns
returns c = search (rules, negatives_end bits)
