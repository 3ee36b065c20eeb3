-- the steps end in x − r
use native.Mathlib.Omega.{arith}
use Rattle.width.specs.Width.{bits}
use Rattle.rules.proofs.Ends.{b2a_ends}
use Rattle.goubin.proofs.b2a.Goals as goal

pub returns : goal.returns
returns c = rw c.b2a_steps-steps.ensures (search (arith, b2a_ends bits))
