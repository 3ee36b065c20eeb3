-- up to place i the shares are those of the rule
use mathlib.Core.Path.{◌≡◌}
use lib.Bits.{bit_and}
use lib.ListN.{take}
use Rattle.rules.specs.Shares.{each}
use Rattle.adder.proofs.and_each.Given as goal

abbrev pub invariant-loop-i : goal.invariant-loop-i
invariant-loop-i l = take l.i l.z ≡ take l.i (each bit_and l.x l.y)
