-- refreshed, and then the last two entries taken together
use borrow.Author.Rules.{rules}
use Rattle.short.proofs.Parts.{ready_made}
use Rattle.short.proofs.refresh_joined.Goals as goal

pub returns : goal.returns
returns c = (search ready_made, search rules)
