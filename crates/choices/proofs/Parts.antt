-- Ch and Maj, from the parts that the code works out one after the other.
use Prim.Native.Nat.{ℕ}
use mathlib.Core.Path.{◌≡◌}
use mathlib.Core.List.{List}
use lib.Bits.{bit_xor}
use Rattle.rules.specs.Shares.{each, and}
use Rattle.rules.specs.Sha1.{word, blended, chosen}
use Rattle.rules.proofs.Loops.{Run}

module _ (ws : List ℕ) (at : ℕ) where
  pub blended_made : (u v d t f : List ℕ) (p : ℕ) → and u v ws at ≡ (t, p) → f ≡ each bit_xor d t
      → blended u v d ws at ≡ (f, p)
  unfolding blended
  blended_made u v d t f p e g = rw (e, g)

  pub choose_made : (b c d v : List ℕ) (o : Run) → v ≡ each bit_xor c d → blended b v d ws at ≡ o
      → chosen 0 b c d ws at ≡ o
  unfolding chosen
  choose_made b c d v o e g = rw (← e) g

  pub majority_made : (b c d u v : List ℕ) (o : Run) → u ≡ each bit_xor b d → v ≡ each bit_xor c d
      → blended u v d ws at ≡ o → chosen 2 b c d ws at ≡ o
  unfolding chosen
  majority_made b c d u v o e h g = rw (← e, ← h) g

  -- of words of several
  pub chosen_of : (n q i j l : ℕ) (s b c d : List ℕ) (o : Run) → b ≡ word n i s → c ≡ word n j s → d ≡ word n l s
      → chosen q b c d ws at ≡ o → chosen q (word n i s) (word n j s) (word n l s) ws at ≡ o
  chosen_of n q i j l s b c d o e f g h = rw (← e, ← f, ← g) h
