use Rattle.hash.proofs.Publics.{marking_next, marking_end}
use Rattle.hash.proofs.mark.Goals as goal

pub loop-w-preserved : goal.loop-w-preserved
loop-w-preserved c = search marking_next

pub returns : goal.returns
returns c = search marking_end
