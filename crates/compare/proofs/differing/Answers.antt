use Rattle.compare.proofs.Found.{found_next, found_end}
use Rattle.compare.proofs.differing.Goals as goal

pub loop-i-preserved : goal.loop-i-preserved
loop-i-preserved c = search found_next

pub returns : goal.returns
returns c = search found_end
