-- the starting chain in front of zeros
use Rattle.hash.proofs.Chains.{start_made}
use Rattle.hash.proofs.start.Goals as goal

pub returns : goal.returns
returns c = search start_made
