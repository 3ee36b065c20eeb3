-- up to share i the pairs stand; what is left, from here on, gives the rest
use Prim.Native.Nat.{◌+◌, ◌*◌}
use mathlib.Core.Path.{◌≡◌}
use mathlib.Core.List.{◌++◌}
use lib.ListN.{take, drop}
use Rattle.rules.specs.Shares.{expand}
use Rattle.shares.proofs.expand_at.Given as goal

abbrev pub invariant-loop-i : goal.invariant-loop-i
invariant-loop-i l =
    (l.p ≡ l.at + l.i)
    × (let rest = expand (drop l.i l.x) l.words l.p in (take (l.i * 2) l.y ++ rest.0, rest.1) ≡ expand l.x l.words l.at)
