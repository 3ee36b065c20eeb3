use borrow.Author.Rules.{rules}
use Rattle.width.specs.Width.{bits}
use Rattle.words.specs.Word.{shift}
use Rattle.rules.specs.Shares.{double_xor}
use Rattle.rules.proofs.Loops.{each_next, each_end}
use Rattle.adder.proofs.double_xor_each.Goals as goal

pub loop-i-preserved : goal.loop-i-preserved
unfolding shift
loop-i-preserved c = search (rules, each_next (double_xor bits))

pub returns : goal.returns
returns c = search (rules, each_end (double_xor bits) c.args.n)
