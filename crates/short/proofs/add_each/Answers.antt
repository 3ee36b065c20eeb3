use borrow.Author.Rules.{rules}
use Rattle.width.specs.Width.{bits}
use Rattle.words.specs.Word.{plus}
use Rattle.rules.proofs.Loops.{into_next, into_end}
use Rattle.short.proofs.add_each.Goals as goal

pub loop-i-preserved : goal.loop-i-preserved
unfolding plus
loop-i-preserved c = (search rules, search (rules, into_next))

pub returns : goal.returns
returns c = search (rules, into_end (plus bits) c.args.x.now c.args.y.now)
