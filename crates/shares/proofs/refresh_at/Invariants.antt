-- from row i on, what is left of the walk over all pairs gives what the whole walk gives
use Rattle.rules.specs.Shares.{mix, refresh}
use Rattle.rules.proofs.Loops.{OrderFrom}
use Rattle.shares.proofs.refresh_at.Given as goal

abbrev pub invariant-loop-i : goal.invariant-loop-i
invariant-loop-i l = OrderFrom mix l.n (refresh l.initial.y l.words l.at) l.words l.at l.y l.p l.i
