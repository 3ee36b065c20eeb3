-- up to place i the shares are those of the rule
use mathlib.Core.Path.{◌≡◌}
use lib.ListN.{take}
use Rattle.width.specs.Width.{bits}
use Rattle.rules.specs.Shares.{each, double_xor}
use Rattle.adder.proofs.double_xor_each.Given as goal

abbrev pub invariant-loop-i : goal.invariant-loop-i
invariant-loop-i l = take l.i l.z ≡ take l.i (each (double_xor bits) l.x l.y)
