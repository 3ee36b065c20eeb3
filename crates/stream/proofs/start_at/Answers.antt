-- the inner key block, then the outer one
use Rattle.stream.proofs.Steps.{start_made}
use Rattle.stream.proofs.start_at.Goals as goal

pub returns : goal.returns
returns c = search start_made
