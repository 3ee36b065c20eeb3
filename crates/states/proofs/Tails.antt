-- The bytes of a tail that wait.
use Prim.Native.Nat.{ℕ, ◌-◌, ◌%◌}
use mathlib.Core.Path.{◌≡◌}
use mathlib.Core.List.{List}
use native.Mathlib.Omega.{arith}
use native.Mathlib.Nat.{sub-zero}
use lib.ListN.{length, take}
use lib.Seq.{length-take-le}

pub tail_part : (bytes : ℕ) (tail : List ℕ) → length tail ≡ 64
    → (take (bytes % 64 - 0) tail ≡ take (bytes % 64) tail) × (length (take (bytes % 64 - 0) tail) ≡ bytes % 64)
tail_part bytes tail whole =
    (rw (sub-zero (bytes % 64)), rw (sub-zero (bytes % 64)) (length-take-le (bytes % 64) tail (omega arith)))
