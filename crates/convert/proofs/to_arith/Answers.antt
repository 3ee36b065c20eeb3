-- A1 to A(n−1) are drawn into the front; the last share is what is left of x without them, opened
use Rattle.convert.proofs.Parts.{to_arith_made}
use Rattle.convert.proofs.to_arith.Goals as goal

pub returns : goal.returns
returns c = search to_arith_made
