-- from pair (i, j) on, what is left of the row gives what the whole row gives
use Rattle.rules.specs.Shares.{cross}
use Rattle.rules.proofs.Loops.{RowFrom}
use Rattle.adder.proofs.and_row.Given as goal

abbrev pub invariant-loop-j : goal.invariant-loop-j
invariant-loop-j l = RowFrom (cross l.x l.y) l.n l.i l.initial.z l.words l.at l.z l.p l.j
