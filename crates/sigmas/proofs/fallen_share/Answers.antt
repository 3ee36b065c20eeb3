use Rattle.std.proofs.Common.{rules}
use Rattle.rules.specs.Sha256.{falls}
use Rattle.sigmas.proofs.fallen_share.Goals as goal

pub returns : goal.returns
unfolding falls
returns c = search rules
