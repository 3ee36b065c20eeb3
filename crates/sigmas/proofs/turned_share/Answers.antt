use Rattle.std.proofs.Common.{rules}
use Rattle.rules.specs.Sha256.{turns}
use Rattle.sigmas.proofs.turned_share.Goals as goal

pub returns : goal.returns
unfolding turns
returns c = search rules
