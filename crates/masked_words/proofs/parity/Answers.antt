use borrow.Author.Rules.{rules}
use lib.Bits.{bit_xor}
use Rattle.rules.proofs.Loops.{each_three_next, each_three_end}
use Rattle.masked_words.proofs.parity.Goals as goal

pub loop-i-preserved : goal.loop-i-preserved
loop-i-preserved c = search (each_three_next bit_xor, rules)

pub returns : goal.returns
returns c = search (each_three_end bit_xor, rules)
