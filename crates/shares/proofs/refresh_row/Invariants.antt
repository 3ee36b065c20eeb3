-- from pair (i, j) on, what is left of the row gives what the whole row gives
use Rattle.rules.specs.Shares.{mix}
use Rattle.rules.proofs.Loops.{RowFrom}
use Rattle.shares.proofs.refresh_row.Given as goal

abbrev pub invariant-loop-j : goal.invariant-loop-j
invariant-loop-j l = RowFrom mix l.n l.i l.initial.y l.words l.at l.y l.p l.j
