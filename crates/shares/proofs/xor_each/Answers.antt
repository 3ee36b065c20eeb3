use borrow.Author.Rules.{rules}
use lib.Bits.{bit_xor}
use lib.ListN.{length}
use Rattle.rules.proofs.Loops.{each_next, each_end}
use Rattle.shares.proofs.xor_each.Goals as goal

pub loop-i-preserved : goal.loop-i-preserved
loop-i-preserved c = search (rules, each_next bit_xor)

pub returns : goal.returns
returns c = search (rules, each_end bit_xor (length c.args.x.now))
