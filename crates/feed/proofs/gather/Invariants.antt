-- up to byte i they stand
use mathlib.Core.Path.{◌≡◌}
use mathlib.Core.List.{◌++◌}
use lib.ListN.{length, take, drop}
use Rattle.feed.proofs.gather.Given as goal

abbrev pub invariant-loop-i : goal.invariant-loop-i
invariant-loop-i l =
    take l.i l.z ≡ take l.i (take (length l.initial.z) (drop l.p (l.tail ++ l.piece)))
