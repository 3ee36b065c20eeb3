-- the last shares, and the one block from them
use borrow.Author.Rules.{rules}
use Rattle.keys.proofs.Long.{short_room, short_made}
use Rattle.keys.proofs.short_key.Goals as goal

pub held_block-requires : goal.held_block-requires
held_block-requires c = (search rules, search rules, search rules, search short_room)

pub returns : goal.returns
returns c = search short_made
