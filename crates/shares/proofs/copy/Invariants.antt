-- up to the next place y is x
use mathlib.Core.Path.{◌≡◌}
use lib.ListN.{length, take}
use Rattle.shares.proofs.copy.Given as goal

abbrev pub invariant-loop-i : goal.invariant-loop-i
invariant-loop-i l =
    let s = l.i-iterator in
    (s.end ≡ length l.x) × (take s.at l.y ≡ take s.at l.x)
