-- up to place i every share is negated; the last place becomes 0
use mathlib.Core.Path.{◌≡◌}
use lib.ListN.{take}
use Rattle.width.specs.Width.{bits}
use Rattle.rules.proofs.Conversion.{negatives}
use Rattle.convert.proofs.negate_each.Given as goal

abbrev pub invariant-loop-i : goal.invariant-loop-i
invariant-loop-i l = take l.i l.m ≡ take l.i (negatives bits l.a)
