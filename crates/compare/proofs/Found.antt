-- The bits that were found to differ, as the code's loop gathers them: none so far, and the rest the same.
use Prim.Native.Nat.{ℕ, ◌+◌, ◌≤◌, ◌<◌}
use mathlib.Core.Path.{◌≡◌, refl, sym, ap, ◌∙◌}
use mathlib.Core.Bool.{Bool, true, false}
use mathlib.Core.List.{List, [], ◌∷◌}
use native.Mathlib.Numerals.{add-one}
use native.Mathlib.Omega.{arith}
use lib.Bits.{bit_or, bit_xor, or_add_and, xor_add_and, and_le_l, and_le_r, xor_self}
use lib.Dec.{eqb}
use lib.ListN.{length, get_or, drop, drop_of_length-le}
use lib.Seq.{drop-cons}
use borrow.Author.Tests.{eqb-true, eqb-false, eq-eqb, ne_eqb}
use Rattle.rules.specs.Numbers.{both}
use Rattle.rules.specs.Calls.{same, same_tag}

-- an OR is 0 where both are, an XOR where they are equal
or_none : (x y : ℕ) → eqb (bit_or x y) 0 ≡ both (eqb x 0) (eqb y 0)
or_none x y = go (eqb x 0) (eqb y 0) refl refl
  where
    go : (p q : Bool) → eqb x 0 ≡ p → eqb y 0 ≡ q → eqb (bit_or x y) 0 ≡ both p q
    go true true e f = eq-eqb (bit_or x y) 0 (omega (arith, or_add_and x y, eqb-true x 0 e, eqb-true y 0 f))
    go true false e f =
        ne_eqb (bit_or x y) 0 (λ z. eqb-false y 0 f (omega (arith, z, or_add_and x y, and_le_l x y)))
    go false q e f =
        ne_eqb (bit_or x y) 0 (λ z. eqb-false x 0 e (omega (arith, z, or_add_and x y, and_le_r x y)))

xor_none : (x y : ℕ) → eqb (bit_xor x y) 0 ≡ eqb x y
xor_none x y = go (eqb x y) refl
  where
    go : (p : Bool) → eqb x y ≡ p → eqb (bit_xor x y) 0 ≡ p
    go true e = eq-eqb (bit_xor x y) 0 (ap (λ z. bit_xor x z) (sym (eqb-true x y e)) ∙ xor_self x)
    go false e =
        ne_eqb (bit_xor x y) 0
        (λ z. eqb-false x y e (omega (arith, z, xor_add_and x y, and_le_l x y, and_le_r x y)))

both_assoc : (p q r : Bool) → both (both p q) r ≡ both p (both q r)
both_assoc true q r = refl
both_assoc false q r = refl

both_true : (p : Bool) → both p true ≡ p
both_true true = refl
both_true false = refl

-- up to place i nothing was found, and from there on the texts are the same
abbrev pub Rest : List ℕ → List ℕ → ℕ → ℕ → Bool
Rest a b found i = both (eqb found 0) (same (drop i a) (drop i b))

module _ (a b : List ℕ) (sizes : length a ≡ length b) where
  pub found_next : (found i : ℕ) (all : Bool) → i < length a → Rest a b found i ≡ all
      → Rest a b (bit_or found (bit_xor (get_or a i 0) (get_or b i 0))) (i + 1) ≡ all
  unfolding same
  found_next found i all h e =
      let g : i < length b = omega arith in
      rw (or_none, xor_none, both_assoc, add-one) (rw (drop-cons a i 0 h, drop-cons b i 0 g) at e)

  pub found_end : (found i : ℕ) (all : Bool) → length a ≤ i → Rest a b found i ≡ all → eqb found 0 ≡ all
  unfolding same
  found_end found i all h e =
      let g : length b ≤ i = omega arith in
      sym (both_true (eqb found 0)) ∙ (rw (drop_of_length-le a h, drop_of_length-le b g) at e)

-- texts of other lengths
both_false : (p q : Bool) → q ≡ false → both p q ≡ false
both_false true q e = e
both_false false q e = refl

no_sizes : (a b : List ℕ) → (length a ≡ length b → ⊥) → same a b ≡ false
unfolding same
no_sizes [] [] h = absurd (h refl)
no_sizes [] (y ∷ b) h = refl
no_sizes (x ∷ a) [] h = refl
no_sizes (x ∷ a) (y ∷ b) h = both_false (eqb x y) (same a b) (no_sizes a b (λ e. h (omega (arith, e))))

pub sizes_differ : (a b : List ℕ) → (length a ≡ length b → ⊥) → same_tag a b ≡ 0
sizes_differ a b h = rw (no_sizes a b h)
