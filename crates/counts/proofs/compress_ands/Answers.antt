use Rattle.std.proofs.Common.{rules}
use Rattle.rules.specs.Counts.{quarter_ands, rounds_ands, compress_ands}
use Rattle.counts.proofs.compress_ands.Goals as goal

pub returns-in-Sha1 : goal.returns-in-Sha1
unfolding quarter_ands rounds_ands compress_ands
returns-in-Sha1 c = search rules
