-- Opened values: of joined lists, of lists taken by shares, of a list with entries changed.
use Prim.Native.Nat.{ℕ, zero, suc, ◌+◌, ◌^◌, ◌≤◌, ◌<◌}
use mathlib.Core.Path.{◌≡◌, refl, sym, ap, ◌∙◌}
use mathlib.Core.List.{List, [], ◌∷◌, ◌++◌}
use native.Mathlib.Numerals.{add-one}
use native.Mathlib.Omega.{arith}
use lib.Bits.{bit_xor, xor_lt}
use lib.ListN.{length, get_or, set, take, drop, replicate, drop_of_length-le}
use lib.Pow.{pow_pos}
use lib.Seq.{drop-cons, drop-nil}
use Rattle.words.specs.Word.{double}
use Rattle.words.proofs.Bits.{bits, v, ◌⊕◌}
use Rattle.words.proofs.Words.{xor_assoc, shift_xor, shift_zero}
use Rattle.rules.specs.Supply.{opened, total, Words}
use Rattle.rules.specs.Shares.{each, double_xor}

pub opened_append : (x y : List ℕ) → opened (x ++ y) ≡ bit_xor (opened x) (opened y)
unfolding opened
opened_append [] y = refl
opened_append (a ∷ x) y = ap (bit_xor a) (opened_append x y) ∙ sym (xor_assoc a (opened x) (opened y))

pub total_append : (x y : List ℕ) → total (x ++ y) ≡ total x + total y
unfolding total
total_append [] y = omega arith
total_append (a ∷ x) y = omega (arith, total_append x y)

pub opened_zeros : (n : ℕ) → opened (replicate n 0) ≡ 0
unfolding opened
opened_zeros zero = refl
opened_zeros (suc n) = opened_zeros n

pub opened_lt : (k : ℕ) (x : List ℕ) → Words k x → opened x < 2 ^ k
unfolding opened
opened_lt k [] h = pow_pos k
opened_lt k (a ∷ x) h = xor_lt k a (opened x) (h 0) (opened_lt k x (λ i. h (suc i)))

-- one entry changed by s
pub opened_set : (z : List ℕ) (i s : ℕ) → i < length z → opened (set z i (bit_xor (get_or z i 0) s))
    ≡ bit_xor s (opened z)
unfolding opened
opened_set [] i s h = absurd (omega arith)
opened_set (a ∷ z) zero s h = bits (a ∷ s ∷ opened z ∷ []) (v 0 ⊕ v 1 ⊕ v 2) (v 1 ⊕ (v 0 ⊕ v 2)) tt
opened_set (a ∷ z) (suc i) s h =
    ap (bit_xor a) (opened_set z i s (omega arith))
    ∙ bits (a ∷ s ∷ opened z ∷ []) (v 0 ⊕ (v 1 ⊕ v 2)) (v 1 ⊕ (v 0 ⊕ v 2)) tt

-- the shares from place i on
pub opened_drop : (z : List ℕ) (i : ℕ) → i < length z
    → opened (drop i z) ≡ bit_xor (get_or z i 0) (opened (drop (i + 1) z))
unfolding opened
opened_drop z i h = rw (add-one i, drop-cons z i 0 h)

pub total_drop : (z : List ℕ) (i : ℕ) → i < length z → total (drop i z) ≡ get_or z i 0 + total (drop (i + 1) z)
unfolding total
total_drop z i h = rw (add-one i, drop-cons z i 0 h)

pub total_past : (z : List ℕ) (i : ℕ) → length z ≤ i → total (drop i z) ≡ 0
unfolding total
total_past z i h = rw (drop_of_length-le z h)

pub opened_past : (z : List ℕ) (i : ℕ) → length z ≤ i → opened (drop i z) ≡ 0
unfolding opened
opened_past z i h = rw (drop_of_length-le z h)

-- ---- by shares
module _ (f : ℕ → ℕ → ℕ) where
  pub length_each : (x y : List ℕ) → length y ≡ length x → length (each f x y) ≡ length x
  unfolding each
  length_each [] y h = refl
  length_each (a ∷ x) [] h = absurd (omega arith)
  length_each (a ∷ x) (b ∷ y) h = ap suc (length_each x y (omega arith))

  pub each_at : (x y : List ℕ) → length y ≡ length x → (i : ℕ) → i < length x
      → get_or (each f x y) i 0 ≡ f (get_or x i 0) (get_or y i 0)
  unfolding each
  each_at [] y h i l = absurd (omega arith)
  each_at (a ∷ x) [] h i l = absurd (omega arith)
  each_at (a ∷ x) (b ∷ y) h zero l = refl
  each_at (a ∷ x) (b ∷ y) h (suc i) l = each_at x y (omega arith) i (omega arith)

  pub each_drop : (i : ℕ) (x y : List ℕ) → drop i (each f x y) ≡ each f (drop i x) (drop i y)
  unfolding each
  each_drop zero x y = refl
  each_drop (suc i) [] y = refl
  each_drop (suc i) (a ∷ x) [] = rw (drop-nil (suc i)) (sym (none (drop i x)))
    where
      none : (x : List ℕ) → each f x [] ≡ []
      none [] = refl
      none (a ∷ x) = refl
  each_drop (suc i) (a ∷ x) (b ∷ y) = each_drop i x y

  pub each_take : (i : ℕ) (x y : List ℕ) → take i (each f x y) ≡ each f (take i x) (take i y)
  unfolding each
  each_take zero x y = refl
  each_take (suc i) [] y = refl
  each_take (suc i) (a ∷ x) [] = refl
  each_take (suc i) (a ∷ x) (b ∷ y) = ap (λ (l : List ℕ). f a b ∷ l) (each_take i x y)

  pub each_append : (x y s t : List ℕ) → length y ≡ length x → each f (x ++ s) (y ++ t) ≡ each f x y ++ each f s t
  unfolding each
  each_append [] [] s t h = refl
  each_append [] (b ∷ y) s t h = absurd (omega arith)
  each_append (a ∷ x) [] s t h = absurd (omega arith)
  each_append (a ∷ x) (b ∷ y) s t h = ap (λ (l : List ℕ). f a b ∷ l) (each_append x y s t (omega arith))

  -- what respects XOR is done to the opened values
  pub each_opens : f 0 0 ≡ 0
      → ((a b c d : ℕ) → f (bit_xor a b) (bit_xor c d) ≡ bit_xor (f a c) (f b d))
      → (x y : List ℕ) → length y ≡ length x
      → opened (each f x y) ≡ f (opened x) (opened y)
  unfolding each opened
  each_opens none respects [] [] h = sym none
  each_opens none respects [] (b ∷ y) h = absurd (omega arith)
  each_opens none respects (a ∷ x) [] h = absurd (omega arith)
  each_opens none respects (a ∷ x) (b ∷ y) h =
      ap (bit_xor (f a b)) (each_opens none respects x y (omega arith))
      ∙ sym (respects a (opened x) b (opened y))

pub xor_middle : (a b c d : ℕ) → bit_xor (bit_xor a b) (bit_xor c d) ≡ bit_xor (bit_xor a c) (bit_xor b d)
xor_middle a b c d = bits (a ∷ b ∷ c ∷ d ∷ []) (v 0 ⊕ v 1 ⊕ (v 2 ⊕ v 3)) (v 0 ⊕ v 2 ⊕ (v 1 ⊕ v 3)) tt

pub xor_opens : (x y : List ℕ) → length y ≡ length x → opened (each bit_xor x y) ≡ bit_xor (opened x) (opened y)
xor_opens = each_opens bit_xor refl xor_middle

pub double_xor_opens : (k : ℕ) (x y : List ℕ) → length y ≡ length x
    → opened (each (double_xor k) x y) ≡ double_xor k (opened x) (opened y)
double_xor_opens k =
    each_opens (double_xor k) (shift_zero k 1)
    (λ a b c d. ap (double k) (xor_middle a b c d) ∙ shift_xor k 1 (bit_xor a c) (bit_xor b d))
