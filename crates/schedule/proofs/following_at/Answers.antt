-- the XOR of four earlier words, rotated, is the schedule's next word
use Rattle.schedule.proofs.Parts.{following_made}
use Rattle.schedule.proofs.following_at.Goals as goal

pub returns : goal.returns
returns c = search following_made
