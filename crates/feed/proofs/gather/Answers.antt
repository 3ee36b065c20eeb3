use Rattle.feed.proofs.Steps.{part_next}
use Rattle.feed.proofs.gather.Goals as goal

pub loop-i-preserved : goal.loop-i-preserved
loop-i-preserved c = search part_next
