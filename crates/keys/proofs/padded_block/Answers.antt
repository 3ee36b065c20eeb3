-- the key's words, with the padding in share 1
use borrow.Author.Rules.{rules}
use Rattle.keys.proofs.Long.{marked_room, block_padded}
use Rattle.keys.proofs.padded_block.Goals as goal

pub mark-requires : goal.mark-requires
mark-requires c = (search rules, search marked_room)

pub returns : goal.returns
returns c = search block_padded
