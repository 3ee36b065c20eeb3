use borrow.Author.Rules.{rules}
use Prim.Native.Nat.{◌-◌}
use native.Mathlib.Nat.{sub-zero}
use lib.ListN.{length}
use Rattle.rules.specs.Shares.{refresh_last}
use Rattle.rules.proofs.Loops.{column_next, column_end}
use Rattle.shares.proofs.refresh_last.Goals as goal

pub loop-i-init : goal.loop-i-init
unfolding refresh_last
loop-i-init c = (search rules, rw (sub-zero (length c.args.y.now - 1)))

pub loop-i-preserved : goal.loop-i-preserved
loop-i-preserved c = (search rules, search column_next)

pub returns : goal.returns
returns c = (search column_end, search rules)
