use borrow.Author.Rules.{rules}
use Rattle.rules.proofs.Loops.{mapped_next}
use Rattle.masked_words.proofs.rotate.Goals as goal

pub loop-i-preserved : goal.loop-i-preserved
loop-i-preserved c = search (mapped_next, rules)
