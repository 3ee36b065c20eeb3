-- the key's block with its constant, compressed into the starting chain
use borrow.Author.Rules.{rules}
use Rattle.hmac.proofs.Steps.{key_made}
use Rattle.hmac.proofs.key_step.Goals as goal

pub returns : goal.returns
returns c = (search key_made, search rules)
