use borrow.Author.Rules.{rules}
use Rattle.padding.proofs.Padded.{block_next}
use Rattle.padding.proofs.block_words.Goals as goal

pub loop-w-preserved : goal.loop-w-preserved
loop-w-preserved c = search (block_next, rules)
