-- the key's words split, and then hashed
use borrow.Author.Rules.{rules}
use Rattle.keys.proofs.Long.{split_room, held_room, hash_room, key_hashed}
use Rattle.keys.proofs.key_digest.Goals as goal

pub last_shares-p-requires : goal.last_shares-p-requires
last_shares-p-requires c = (search rules, search rules, search rules, search split_room)

pub hash_key-requires : goal.hash_key-requires
hash_key-requires c =
    (search rules, search rules, search rules, search rules, search held_room, search hash_room)

pub returns : goal.returns
returns c = search key_hashed
