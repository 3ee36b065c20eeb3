use borrow.Author.Rules.{rules}
use Rattle.hash.proofs.Blocks.{blocks_next, blocks_end, block_room}
use Rattle.keys.proofs.hash_key.Goals as goal

pub compress-next-requires : goal.compress-next-requires
compress-next-requires c = (search rules, search rules, search rules, search block_room)

pub loop-j-preserved : goal.loop-j-preserved
loop-j-preserved c = (search rules, search blocks_next)

pub returns : goal.returns
returns c = search blocks_end
