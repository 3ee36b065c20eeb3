-- the masks are the next words, and the last share is the value XOR all of them
use borrow.Author.Rules.{rules}
use Rattle.rules.proofs.Loops.{split_made}
use Rattle.shares.proofs.split_at.Goals as goal

pub returns : goal.returns
returns c = (search split_made, search rules)
