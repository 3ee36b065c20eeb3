-- zeros, marked
use Rattle.hash.proofs.Publics.{published}
use Rattle.hash.proofs.publish.Goals as goal

pub returns : goal.returns
returns c = search (published, c.fill.ensures.after)
