-- The compression of masked SHA-1, from the parts that the code works out one after the other.
use Prim.Native.Nat.{ℕ, ◌+◌, ◌*◌, ◌/◌, ◌≤◌}
use mathlib.Core.Path.{◌≡◌, ◌∙◌}
use mathlib.Core.List.{List, []}
use native.Mathlib.Nat.{add-mul}
use native.Mathlib.Omega.{arith}
use Rattle.rules.specs.Convert.{Adder}
use Rattle.rules.specs.Counts.{and_draws, rounds_ands, compress_ands, compress_draws}
use Rattle.rules.specs.Sha1.{round, rounds, schedule, sums, compress}
use Rattle.rules.proofs.Loops.{Run}

-- ---- compress_at: the rounds over a copy of the chain, and the sums
pub compress_made : (k : ℕ) (add : Adder) (n : ℕ) (block ws h g s : List ℕ) (at p : ℕ) (o : Run) → g ≡ h
    → rounds (λ t. round k add n (t / 20)) n (schedule k n 64 block) 80 0 g ws at ≡ (s, p) → sums add n h s 5 0 [] ws
    p ≡ o
    → compress k add n h block ws at ≡ o
unfolding compress
compress_made k add n block ws h g s at p o e f i = rw (← e, f) (rw (← e) at i)

-- the words that they draw
module _ (n at : ℕ) where
  parts : compress_draws 32 n ≡ rounds_ands 32 80 0 * and_draws n + 5 * (32 * and_draws n)
  unfolding compress_ands
  parts = add-mul (rounds_ands 32 80 0) 160 (and_draws n) ∙ omega arith

  pub rounds_room : (size : ℕ) → at + compress_draws 32 n ≤ size → at + rounds_ands 32 80 0 * and_draws n ≤ size
  rounds_room size h = omega (arith, parts)

  pub sums_room : (p size : ℕ) → at + compress_draws 32 n ≤ size → p ≡ at + rounds_ands 32 80 0 * and_draws n
      → p + 5 * (32 * and_draws n) ≤ size
  sums_room p size h e = omega (arith, parts)

  pub compress_after : (p q : ℕ) → p ≡ at + rounds_ands 32 80 0 * and_draws n → q ≡ p + 5 * (32 * and_draws n)
      → q ≡ at + compress_draws 32 n
  compress_after p q e g = omega (arith, parts)
