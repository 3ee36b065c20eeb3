-- the shares with a zero share, and from these both lists
use Rattle.short.proofs.Parts.{two_place, two_made}
use Rattle.short.proofs.two_lists.Goals as goal

pub returns : goal.returns
returns c = (search two_made, search two_place)
