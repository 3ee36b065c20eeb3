-- the inner key block, then the message
use borrow.Author.Rules.{rules}
use Rattle.hmac.proofs.Steps.{inner_made}
use Rattle.hmac.proofs.inner_step.Goals as goal

pub returns : goal.returns
returns c = (search inner_made, search rules)
