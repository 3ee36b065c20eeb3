-- What share counts draw at most, and the table of W.
use Prim.Native.Nat.{ℕ, ◌-◌, ◌*◌, ◌≤◌, ◌<◌}
use mathlib.Core.Path.{◌≡◌}
use mathlib.Core.Bool.{Bool, true}
use mathlib.Core.List.{List}
use native.Mathlib.Nat.{mul-le-mul}
use native.Mathlib.Omega.{arith}
use lib.Dec.{eqb, leb}
use lib.ListN.{get_or}
use borrow.Author.Tests.{eqb-true, leb-true}
use Rattle.width.specs.Width.{bits}
use Rattle.rules.specs.Numbers.{largest, both}
use Rattle.rules.specs.Counts.{add_draws, to_bool_draws}
use Rattle.rules.proofs.Allowed.{both_true, every, each_to}

pub pairs_below : (n : ℕ) → 0 < n → n ≤ largest → n * (n - 1) ≤ 240
pairs_below n h l = let less : n - 1 ≤ 15 = omega arith in mul-le-mul l less

-- W, by a table that is tested at each count
abbrev pub right : List ℕ → ℕ → Bool
right table n = both (eqb (get_or table n 0) (to_bool_draws (add_draws bits) n)) (leb (get_or table n 0) 6720)

pub table_right : (table : List ℕ) → every (right table) largest ≡ true → (n : ℕ) → n ≤ largest
    → (get_or table n 0 ≡ to_bool_draws (add_draws bits) n) × (get_or table n 0 ≤ 6720)
table_right table tested n h =
    let parts = both_true _ _ (each_to (right table) largest tested n h) in
    (eqb-true _ _ parts.0, leb-true _ _ parts.1)
