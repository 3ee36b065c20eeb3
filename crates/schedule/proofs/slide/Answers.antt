-- the first word replaced while the schedule goes on, and left after that: either way the window is the next round's
use Rattle.schedule.proofs.Parts.{slid_on, slid_end}
use Rattle.schedule.proofs.slide.Goals as goal

pub returns-then-t : goal.returns-then-t
returns-then-t c = search slid_on

pub returns-else-t : goal.returns-else-t
returns-else-t c = search slid_end
