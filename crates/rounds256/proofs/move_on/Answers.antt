-- two stores into the ring: the words stand in their new order, from another word on
use Rattle.rounds256.proofs.Parts.{moved_made}
use Rattle.rounds256.proofs.move_on.Goals as goal

pub returns : goal.returns
returns c = search moved_made
