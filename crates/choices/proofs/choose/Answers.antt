-- Ch: the AND of b and c ⊕ d, blended with d
use borrow.Author.Rules.{rules}
use Rattle.choices.proofs.Parts.{choose_made}
use Rattle.choices.proofs.choose.Goals as goal

pub returns : goal.returns
returns c = (search choose_made, search rules)
