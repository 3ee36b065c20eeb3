use borrow.Author.Rules.{rules}
use Rattle.sums.proofs.Parts.{sum_after, sums_after}
use Rattle.schedule256.proofs.Parts.{schedule_next, schedule_end}
use Rattle.schedule256.proofs.schedule_at.Goals as goal

pub loop-t-preserved : goal.loop-t-preserved
loop-t-preserved c = (search rules, search rules, search sum_after, search schedule_next)

pub returns : goal.returns
returns c = (search schedule_end, search sums_after)
