-- one AND and one doubling are one round of the rule
use borrow.Author.Rules.{rules}
use Rattle.rules.proofs.Loops.{carries_one}
use Rattle.adder.proofs.carry_round.Goals as goal

pub returns : goal.returns
returns c = (search carries_one, search rules)
