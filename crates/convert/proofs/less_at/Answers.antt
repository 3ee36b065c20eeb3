-- the negatives converted, added to x and refreshed, each drawing from where the one before ended
use Rattle.convert.proofs.Parts.{less_made}
use Rattle.convert.proofs.less_at.Goals as goal

pub returns : goal.returns
returns c = search less_made
