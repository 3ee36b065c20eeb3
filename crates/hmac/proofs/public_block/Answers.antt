-- the words of the block, made public
use borrow.Author.Rules.{rules}
use Rattle.hash.proofs.Publics.{public_room}
use Rattle.hmac.proofs.Steps.{public_made}
use Rattle.hmac.proofs.public_block.Goals as goal

pub publish-requires : goal.publish-requires
publish-requires c = (search rules, search public_room)

pub returns : goal.returns
returns c = search public_made
