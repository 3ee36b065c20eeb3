-- the digest, from room for the last shares, into the key block
use borrow.Author.Rules.{rules}
use Rattle.keys.proofs.Long.{lent_room, long_made}
use Rattle.keys.proofs.long_key.Goals as goal

pub key_digest-made-requires : goal.key_digest-made-requires
key_digest-made-requires c =
    (search rules, search rules, search rules, search rules, search lent_room, search rules, search rules)

pub returns : goal.returns
returns c = search long_made
