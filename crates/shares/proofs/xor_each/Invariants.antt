-- up to place i the shares are those of the rule
use mathlib.Core.Path.{◌≡◌}
use lib.ListN.{take}
use lib.Bits.{bit_xor}
use Rattle.rules.specs.Shares.{each}
use Rattle.shares.proofs.xor_each.Given as goal

abbrev pub invariant-loop-i : goal.invariant-loop-i
invariant-loop-i l = take l.i l.z ≡ take l.i (each bit_xor l.x l.y)
