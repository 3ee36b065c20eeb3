-- AND, XOR, the carry loop from zeros and XOR, one after the other, are the rule's addition
use borrow.Author.Rules.{rules}
use Rattle.words.proofs.Stores.{lent_zeros}
use Rattle.rules.proofs.Loops.{add_made}
use Rattle.adder.proofs.add_of.Goals as goal

pub returns : goal.returns
returns c = (search (add_made, lent_zeros), search rules)
