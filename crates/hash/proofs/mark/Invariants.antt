-- the constants that are left, from here on, give what all of them give from the start
use mathlib.Core.Path.{◌≡◌}
use lib.ListN.{drop}
use Rattle.hash.proofs.Publics.{marking}
use Rattle.hash.proofs.mark.Given as goal

abbrev pub invariant-loop-w : goal.invariant-loop-w
invariant-loop-w l =
    marking l.n (drop l.w l.values) l.w l.z ≡ marking l.n l.values 0 l.initial.z
