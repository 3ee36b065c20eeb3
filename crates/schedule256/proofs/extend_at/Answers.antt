-- the word that follows, worked out beside the schedule and stored behind its words
use borrow.Author.Rules.{rules}
use Rattle.schedule256.proofs.Parts.{extended, extended_front}
use Rattle.schedule256.proofs.extend_at.Goals as goal

pub returns : goal.returns
returns c = (search extended, search extended_front, search rules)
