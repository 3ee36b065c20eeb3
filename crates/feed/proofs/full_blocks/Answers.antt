use borrow.Author.Rules.{rules}
use Rattle.hash.proofs.Blocks.{block_place}
use Rattle.feed.proofs.Steps.{full_next, full_end}
use Rattle.feed.proofs.full_blocks.Goals as goal

pub loop-j-preserved : goal.loop-j-preserved
loop-j-preserved c = (search rules, search full_next)

pub returns : goal.returns
returns c = (search full_end, search block_place)
