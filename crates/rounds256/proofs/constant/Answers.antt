-- one of the table
use Rattle.std.proofs.Common.{rules}
use Rattle.rules.specs.Standard256.{K}
use Rattle.rounds256.proofs.constant.Goals as goal

pub returns : goal.returns
unfolding K
returns c = search rules
