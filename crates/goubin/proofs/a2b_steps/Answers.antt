-- the start is stored, and the turns and the last step behind it
use Rattle.goubin.proofs.Records.{start_stored}
use Rattle.goubin.proofs.a2b_steps.Goals as goal

pub returns : goal.returns
returns c = search start_stored
