-- a copy, converted in place
use Rattle.short.proofs.Parts.{copied_made}
use Rattle.short.proofs.to_arith_short.Goals as goal

pub returns : goal.returns
returns c = search copied_made
