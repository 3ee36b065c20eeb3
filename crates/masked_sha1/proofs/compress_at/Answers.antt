-- the rounds and five sums, one after the other, are the rule's compression
use borrow.Author.Rules.{rules}
use Rattle.masked_sha1.proofs.Parts.{compress_made, rounds_room, sums_room, compress_after}
use Rattle.masked_sha1.proofs.compress_at.Goals as goal

pub rounds_at-p-requires : goal.rounds_at-p-requires
rounds_at-p-requires c = (search rules, search rules, search rules, search rules, search rounds_room)

pub sums_at-requires : goal.sums_at-requires
sums_at-requires c = (search rules, search rules, search sums_room)

pub returns : goal.returns
returns c = (search compress_made, search rules, search compress_after)
