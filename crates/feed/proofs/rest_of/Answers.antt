-- gathered from the last full block on
use Rattle.feed.proofs.Steps.{rest_made}
use Rattle.feed.proofs.rest_of.Goals as goal

pub returns : goal.returns
returns c = search rest_made
