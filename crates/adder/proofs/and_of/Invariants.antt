-- from row i on, what is left of the walk over all pairs gives what the whole walk gives
use Rattle.rules.specs.Shares.{cross, and}
use Rattle.rules.proofs.Loops.{OrderFrom}
use Rattle.adder.proofs.and_of.Given as goal

abbrev pub invariant-loop-i : goal.invariant-loop-i
invariant-loop-i l = OrderFrom (cross l.x l.y) l.n (and l.x l.y l.words l.at) l.words l.at l.z l.p l.i
