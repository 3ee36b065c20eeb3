-- The function of a quarter, from the parts that the code works out one after the other.
use Prim.Native.Nat.{ℕ, zero, suc, ◌+◌, ◌*◌, ◌≤◌, ◌<◌}
use mathlib.Core.Path.{◌≡◌, refl}
use mathlib.Core.List.{List}
use mathlib.Core.Logic.{◌⊎◌, inl, inr}
use native.Mathlib.Omega.{arith}
use lib.Bits.{bit_xor}
use Rattle.rules.specs.Shares.{each}
use Rattle.rules.specs.Sha1.{chosen}
use Rattle.rules.specs.Counts.{quarter_ands}
use Rattle.rules.proofs.Loops.{Run}

-- ---- the functions, each from its parts
module _ (ws : List ℕ) (at : ℕ) where
  -- the two quarters that draw nothing
  pub parity_chosen : (q : ℕ) (b c d f : List ℕ) → q < 4 → (q ≡ 0 → ⊥) → (q ≡ 2 → ⊥)
      → f ≡ each bit_xor (each bit_xor b c) d → chosen q b c d ws at ≡ (f, at)
  unfolding chosen
  parity_chosen zero b c d f l h k e = absurd (h refl)
  parity_chosen (suc zero) b c d f l h k e = rw (← e)
  parity_chosen (suc (suc zero)) b c d f l h k e = absurd (k refl)
  parity_chosen (suc (suc (suc q))) b c d f l h k e = rw (← e)

  -- the quarter's number, told by a test
  pub chosen_by : (q m : ℕ) (b c d : List ℕ) (o : Run) → q ≡ m → chosen m b c d ws at ≡ o → chosen q b c d ws at ≡ o
  chosen_by q m b c d o e g = rw e g

-- ---- quarter: how many ANDs its function makes, and so the room that it takes and the place after it
ands_one : (q d : ℕ) → (q ≡ 0) ⊎ (q ≡ 2) → quarter_ands q * d ≡ d
unfolding quarter_ands
ands_one q d (inl e) = rw e (omega arith)
ands_one q d (inr e) = rw e (omega arith)

ands_none : (q d : ℕ) → (q ≡ 0 → ⊥) → (q ≡ 2 → ⊥) → quarter_ands q * d ≡ 0
unfolding quarter_ands
ands_none zero d h k = absurd (h refl)
ands_none (suc zero) d h k = omega arith
ands_none (suc (suc zero)) d h k = absurd (k refl)
ands_none (suc (suc (suc q))) d h k = omega arith

module _ (q d at : ℕ) where
  pub room_one : (m : ℕ) → (q ≡ 0) ⊎ (q ≡ 2) → at + quarter_ands q * d ≤ m → at + d ≤ m
  room_one m e h = omega (arith, ands_one q d e)

  pub after_one : (r : ℕ) → (q ≡ 0) ⊎ (q ≡ 2) → r ≡ at + d → r ≡ at + quarter_ands q * d
  after_one r e h = omega (arith, ands_one q d e)

  pub after_none : (q ≡ 0 → ⊥) → (q ≡ 2 → ⊥) → at ≡ at + quarter_ands q * d
  after_none h k = omega (arith, ands_none q d h k)
