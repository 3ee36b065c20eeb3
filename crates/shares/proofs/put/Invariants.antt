-- what is left to be stored, stored from here on, gives what all of it gives from the start
use Prim.Native.Nat.{◌+◌}
use mathlib.Core.Path.{◌≡◌}
use lib.ListN.{length, drop}
use lib.Seq.{sets}
use Rattle.shares.proofs.put.Given as goal

abbrev pub invariant-loop-i : goal.invariant-loop-i
invariant-loop-i l =
    let s = l.i-iterator in
    (s.end ≡ length l.x) × (sets l.z (l.at + s.at) (drop s.at l.x) ≡ sets l.initial.z l.at l.x)
