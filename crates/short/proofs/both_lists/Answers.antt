-- b is worked out from the shares; then the later ones, and after them b, are made ready
use Rattle.short.proofs.Parts.{lists_made, lists_place}
use Rattle.short.proofs.both_lists.Goals as goal

pub returns : goal.returns
returns c = (search lists_made, search lists_place)
