use borrow.Author.Rules.{rules}
use native.Mathlib.Nat.{sub-zero}
use Rattle.rules.proofs.Loops.{order_begins, order_next, order_end, rows_room, rows_place, rows_end}
use Rattle.adder.proofs.and_of.Goals as goal

pub loop-i-init : goal.loop-i-init
loop-i-init c = (simp sub-zero, search order_begins)

pub and_row-p-requires : goal.and_row-p-requires
and_row-p-requires c = (search rules, search rules, search rules, search rules, search rows_room)

pub loop-i-preserved : goal.loop-i-preserved
loop-i-preserved c = (search rows_place, search order_next)

pub returns : goal.returns
returns c = (search order_end, search rows_end)
