use Prim.Native.Nat.{◌-◌}
use mathlib.Core.Path.{◌≡◌}
use native.Mathlib.Omega.{arith}
use Rattle.width.specs.Width.{bits}
use Rattle.rules.specs.Goubin.{a2b_start, a2b_rounds, a2b_record}
use Rattle.rules.proofs.Ends.{a2b_ends, rounds_again}
use Rattle.goubin.proofs.a2b.Goals as goal

pub loop-init : goal.loop-init
unfolding a2b_record a2b_start
loop-init c = rw c.a2b_start-start.ensures (search (arith, a2b_ends bits))

pub loop-preserved : goal.loop-preserved
loop-preserved c = rw c.a2b_round-turn.ensures (search (arith, rounds_again))

pub returns : goal.returns
unfolding a2b_rounds
returns c =
    let done : bits - 1 - c.loop.counter ≡ 0 = omega arith in
    rw done at c.loop.invariant
