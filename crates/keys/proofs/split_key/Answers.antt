-- a longer key, or one of at most one block
use borrow.Author.Rules.{rules}
use Rattle.keys.proofs.Long.{drawn_room, short_case, long_case}
use Rattle.keys.proofs.split_key.Goals as goal

pub returns-then-key-gt-BLOCK_BYTES : goal.returns-then-key-gt-BLOCK_BYTES
returns-then-key-gt-BLOCK_BYTES c = search long_case

pub short_key-requires : goal.short_key-requires
short_key-requires c = (search rules, search rules, search rules, search drawn_room)

pub returns : goal.returns
returns c = search short_case
