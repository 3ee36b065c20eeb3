-- as for any count, with rooms that are lent whole
use borrow.Author.Rules.{rules}
use Rattle.rules.proofs.Loops.{add_made}
use Rattle.adder.proofs.add_eight.Goals as goal

pub returns : goal.returns
returns c = (search add_made, search rules)
