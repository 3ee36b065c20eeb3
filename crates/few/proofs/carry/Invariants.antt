-- the rounds that are left, from here on, give what all k − 1 give from the start
use Prim.Native.Nat.{◌+◌, ◌-◌, ◌*◌}
use mathlib.Core.Path.{◌≡◌}
use lib.ListN.{replicate}
use Rattle.width.specs.Width.{bits}
use Rattle.rules.specs.Shares.{carries}
use Rattle.rules.specs.Counts.{and_draws}
use Rattle.few.specs.Shares.{firsts}
use Rattle.few.proofs.carry.Given as goal

abbrev pub invariant-loop : goal.invariant-loop
invariant-loop l =
    (l.u.at ≡ l.initial.u.at + l.counter * and_draws l.n)
    × (carries bits (firsts l.n l.a) (firsts l.n l.t) (bits - 1 - l.counter) (firsts l.n l.u.shares) l.words l.u.at
    ≡ carries bits (firsts l.n l.a) (firsts l.n l.t) (bits - 1) (replicate l.n 0) l.words l.initial.u.at)
