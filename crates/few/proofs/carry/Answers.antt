use borrow.Author.Rules.{rules}
use native.Mathlib.Omega.{arith}
use Rattle.rules.proofs.Loops.{parts_end, carries_next, carries_end}
use Rattle.few.proofs.Laws.{firsts_zeros}
use Rattle.few.proofs.carry.Goals as goal

pub loop-init : goal.loop-init
loop-init c = (search rules, rw (firsts_zeros c.args.n (omega arith)))

pub loop-preserved : goal.loop-preserved
loop-preserved c = (search rules, search (rules, carries_next))

pub returns : goal.returns
returns c = (search (rules, carries_end), search (rules, parts_end))
