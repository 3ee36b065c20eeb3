-- from share i on, what is left of the walk gives what the whole walk gives
use Prim.Native.Nat.{◌+◌, ◌-◌}
use mathlib.Core.Path.{◌≡◌}
use Rattle.rules.specs.Shares.{pass, column, mix, refresh_last}
use Rattle.shares.proofs.refresh_last.Given as goal

abbrev pub invariant-loop-i : goal.invariant-loop-i
invariant-loop-i l =
    (l.p ≡ l.at + l.i)
    × (pass mix (column l.last (l.last - l.i) l.i) l.y l.words l.p ≡ refresh_last l.initial.y l.words l.at)
