-- the word that follows, worked out beside the window and stored over its first word
use Rattle.schedule.proofs.Parts.{replaced}
use Rattle.schedule.proofs.replace.Goals as goal

pub returns : goal.returns
returns c = search replaced
