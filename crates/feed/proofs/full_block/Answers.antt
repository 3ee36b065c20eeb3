-- the bytes of the block, gathered, are a text of one block
use borrow.Author.Rules.{rules}
use Rattle.feed.proofs.Steps.{full_made}
use Rattle.feed.proofs.full_block.Goals as goal

pub returns : goal.returns
returns c = (search full_made, search rules)
