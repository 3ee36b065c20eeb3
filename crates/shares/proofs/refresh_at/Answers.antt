use borrow.Author.Rules.{rules}
use native.Mathlib.Nat.{sub-zero}
use Rattle.rules.specs.Shares.{refresh}
use Rattle.rules.proofs.Loops.{order_next, order_end, rows_room, rows_place, rows_end}
use Rattle.shares.proofs.refresh_at.Goals as goal

pub loop-i-init : goal.loop-i-init
unfolding refresh
loop-i-init c = (simp sub-zero, simp sub-zero cc)

pub refresh_row-p-requires : goal.refresh_row-p-requires
refresh_row-p-requires c = (search rules, search rules, search rows_room)

pub loop-i-preserved : goal.loop-i-preserved
loop-i-preserved c = (search rows_place, search order_next)

pub returns : goal.returns
returns c = (search order_end, search rows_end)
