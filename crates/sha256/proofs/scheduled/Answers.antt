-- the block, and the schedule after it
use borrow.Author.Rules.{rules}
use Rattle.sha256.proofs.Parts.{scheduled_made}
use Rattle.sha256.proofs.scheduled.Goals as goal

pub returns : goal.returns
returns c = (search scheduled_made, search rules)
