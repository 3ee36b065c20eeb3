-- the three sums, of the words 2, 7, 15 and 16 before the end
use borrow.Author.Rules.{rules}
use Rattle.schedule256.proofs.Parts.{following_made}
use Rattle.schedule256.proofs.following_at.Goals as goal

pub returns : goal.returns
returns c = (search following_made, search rules, search rules)
