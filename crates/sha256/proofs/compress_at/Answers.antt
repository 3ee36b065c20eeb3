-- the schedule, the rounds and eight sums are the rule's compression
use borrow.Author.Rules.{rules}
use Rattle.sha256.proofs.Parts.{compress_made}
use Rattle.sha256.proofs.compress_at.Goals as goal

pub returns : goal.returns
returns c = (search compress_made, search rules, search rules)
