-- the places behind
use Rattle.hash.proofs.Chains.{rest_made}
use Rattle.hash.proofs.clear_rest.Goals as goal

pub returns : goal.returns
returns c = search (rest_made, c.fill.ensures.after)
