-- the turns that are left end where all of them end: in x ⊕ r
use Prim.Native.Nat.{◌-◌, ◌*◌}
use mathlib.Core.Path.{◌≡◌}
use lib.ListN.{get_or}
use Rattle.width.specs.Width.{bits}
use Rattle.rules.specs.Goubin.{a2b_rounds}
use Rattle.rules.specs.Calls.{a2b_two}
use Rattle.goubin.proofs.a2b.Given as goal

abbrev pub invariant-loop : goal.invariant-loop
invariant-loop l =
    let left = bits - 1 - l.counter in
    let rest = a2b_rounds bits l.a l.r (get_or l.start 8 0) (get_or l.start 3 0) left l.t in
    get_or rest (5 * left) 0 ≡ a2b_two bits l.a l.r
