-- Maj: the AND of b ⊕ d and c ⊕ d, blended with d
use borrow.Author.Rules.{rules}
use Rattle.choices.proofs.Parts.{majority_made}
use Rattle.choices.proofs.majority.Goals as goal

pub returns : goal.returns
returns c = (search majority_made, search rules)
