-- the sums in front, and behind them the last of each list
use Rattle.short.proofs.Parts.{sum_made}
use Rattle.short.proofs.sum_lists.Goals as goal

pub returns : goal.returns
returns c = search sum_made
