-- what stands in front, and the turns that are left, are the start and all turns
use Prim.Native.Nat.{◌+◌, ◌-◌, ◌*◌}
use mathlib.Core.Path.{◌≡◌}
use mathlib.Core.List.{◌++◌}
use lib.ListN.{take}
use Rattle.width.specs.Width.{bits}
use Rattle.rules.specs.Goubin.{a2b_rounds}
use Rattle.goubin.proofs.a2b_turns.Given as goal

abbrev pub invariant-loop-i : goal.invariant-loop-i
invariant-loop-i l =
    take (9 + 5 * l.i) l.entries ++ a2b_rounds bits l.a l.r l.o l.x (bits - 1 - l.i) l.t
    ≡ take 9 l.initial.entries ++ a2b_rounds bits l.a l.r l.o l.x (bits - 1) l.start
