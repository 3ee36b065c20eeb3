-- the full blocks compressed, and the rest in front of zeros
use borrow.Author.Rules.{rules}
use Rattle.feed.proofs.Steps.{piece_fits, piece_room, piece_place, feed_made}
use Rattle.feed.proofs.feed_at.Goals as goal

pub full_blocks-made-requires : goal.full_blocks-made-requires
full_blocks-made-requires c = (search rules, search rules, search piece_fits, search piece_room)

pub rest_of-rest-requires : goal.rest_of-rest-requires
rest_of-rest-requires c = search piece_fits

pub returns : goal.returns
returns c = (search feed_made, search piece_place)
