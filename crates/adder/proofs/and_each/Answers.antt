use borrow.Author.Rules.{rules}
use lib.Bits.{bit_and}
use Rattle.rules.proofs.Loops.{each_next, each_end}
use Rattle.adder.proofs.and_each.Goals as goal

pub loop-i-preserved : goal.loop-i-preserved
loop-i-preserved c = search (rules, each_next bit_and)

pub returns : goal.returns
returns c = search (rules, each_end bit_and c.args.n)
