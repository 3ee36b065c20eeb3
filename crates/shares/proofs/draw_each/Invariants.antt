-- up to place i the words are the next ones, and the place is so many on
use Prim.Native.Nat.{◌+◌}
use mathlib.Core.Path.{◌≡◌}
use lib.ListN.{length, take}
use Rattle.rules.specs.Supply.{next}
use Rattle.shares.proofs.draw_each.Given as goal

abbrev pub invariant-loop-i : goal.invariant-loop-i
invariant-loop-i l = (l.p ≡ l.at + l.i) × (take l.i l.z ≡ take l.i (next (length l.initial.z) l.words l.at).0)
