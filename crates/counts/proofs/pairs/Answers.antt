-- the product halved
use Rattle.std.proofs.Common.{arith, sym}
use Rattle.rules.proofs.Sizes.{and_count}
use Rattle.counts.proofs.Queries.{pairs_below}
use Rattle.counts.proofs.pairs.Goals as goal

pub returns : goal.returns
returns c = (sym (and_count _), omega (arith, pairs_below _ c.requires.0 c.requires.1))
