-- the rounds that are left, from here on, give what all k − 1 give from the start
use Prim.Native.Nat.{◌+◌, ◌-◌, ◌*◌}
use mathlib.Core.Path.{◌≡◌}
use Rattle.width.specs.Width.{bits}
use Rattle.rules.specs.Shares.{carries}
use Rattle.rules.specs.Counts.{and_draws}
use Rattle.adder.proofs.carry_at.Given as goal

abbrev pub invariant-loop : goal.invariant-loop
invariant-loop l =
    (l.p ≡ l.at + l.counter * and_draws l.n)
    × (carries bits l.a l.w (bits - 1 - l.counter) l.u l.words l.p
    ≡ carries bits l.a l.w (bits - 1) l.initial.u l.words l.at)
