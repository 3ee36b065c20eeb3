-- the outer key block, then the digest block
use borrow.Author.Rules.{rules}
use Rattle.hmac.proofs.Steps.{outer_made}
use Rattle.hmac.proofs.outer_step.Goals as goal

pub returns : goal.returns
returns c = (search outer_made, search rules)
