-- up to place i the bits that differ are gathered
use mathlib.Core.Path.{◌≡◌}
use Rattle.rules.specs.Calls.{same}
use Rattle.compare.proofs.Found.{Rest}
use Rattle.compare.proofs.differing.Given as goal

abbrev pub invariant-loop-i : goal.invariant-loop-i
invariant-loop-i l = Rest l.a l.b l.found l.i ≡ same l.a l.b
