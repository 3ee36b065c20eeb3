-- The share counts that calls take, case by case.
use Prim.Native.Nat.{ℕ, zero, suc, ◌-◌, ◌≤◌, ◌<◌}
use mathlib.Core.Path.{◌≡◌, refl, sym, subst}
use mathlib.Core.Bool.{Bool, true, false}
use native.Mathlib.Omega.{arith}
use lib.Bits.{bit_and}
use lib.Dec.{eqb, leb}
use borrow.Author.Tests.{eqb-true, leb-true, leb-false, le-leb}
use Rattle.rules.specs.Numbers.{largest, either, both, power, allowed}
use Rattle.rules.specs.Convert.{power_to, power_of_two}

pub data Taken : ℕ → Type 0 where
  one : Taken 1
  two : Taken 2
  four : Taken 4
  eight : Taken 8

pub counted : (n : ℕ) → power n ≡ true → Taken n
unfolding power
counted n h = go (eqb n 1) (eqb n 2) (eqb n 4) (eqb n 8) refl refl refl refl h
  where
    go : (a b c d : Bool) → eqb n 1 ≡ a → eqb n 2 ≡ b → eqb n 4 ≡ c → eqb n 8 ≡ d
        → either a (either b (either c d)) ≡ true → Taken n
    go true b c d ea eb ec ed q = subst Taken (sym (eqb-true n 1 ea)) one
    go false true c d ea eb ec ed q = subst Taken (sym (eqb-true n 2 eb)) two
    go false false true d ea eb ec ed q = subst Taken (sym (eqb-true n 4 ec)) four
    go false false false true ea eb ec ed q = subst Taken (sym (eqb-true n 8 ed)) eight
    go false false false false ea eb ec ed q = let z : ◌≡◌ {A = ℕ} 0 1 = cc in absurd (omega arith)

pub both_true : (a b : Bool) → both a b ≡ true → (a ≡ true) × (b ≡ true)
both_true true b h = (refl, h)
both_true false b h = let z : ◌≡◌ {A = ℕ} 0 1 = cc in absurd (omega arith)

pub power_within : (n : ℕ) → power n ≡ true → (0 < n) × (n ≤ 8)
power_within n h = go (counted n h)
  where
    go : {n : ℕ} → Taken n → (0 < n) × (n ≤ 8)
    go one = omega arith
    go two = omega arith
    go four = omega arith
    go eight = omega arith

pub within : (n : ℕ) → allowed n ≡ true → (0 < n) × (n ≤ largest)
unfolding allowed
within n h = let p = both_true (leb 1 n) (leb n largest) h in (leb-true 1 n p.0, leb-true n largest p.1)

-- each half by itself: listed, omega uses it of every count that it meets
pub some : (n : ℕ) → allowed n ≡ true → 0 < n
some n h = (within n h).0

pub few : (n : ℕ) → allowed n ≡ true → n ≤ largest
few n h = (within n h).1

pub in_bounds : (n : ℕ) → 0 < n → n ≤ largest → allowed n ≡ true
unfolding allowed
in_bounds n h l = rw (le-leb 1 n (omega arith), le-leb n largest l)

-- ---- what is tested of every count up to m holds of each
abbrev pub every : (ℕ → Bool) → ℕ → Bool
every f zero = f 0
every f (suc m) = both (every f m) (f (suc m))

pub each_to : (f : ℕ → Bool) (m : ℕ) → every f m ≡ true → (n : ℕ) → n ≤ m → f n ≡ true
each_to f zero h n l = let e : n ≡ 0 = omega arith in rw e h
each_to f (suc m) h n l = go (leb n m) refl (each_to f m (both_true (every f m) (f (suc m)) h).0 n)
  where
    go : (b : Bool) → leb n m ≡ b → (n ≤ m → f n ≡ true) → f n ≡ true
    go true e below = below (leb-true n m e)
    go false e below =
        let past = leb-false n m e in
        let last : n ≡ suc m = omega arith in
        rw last (both_true (every f m) (f (suc m)) h).1

same : Bool → Bool → Bool
same true b = b
same false true = false
same false false = true

same_true : (a b : Bool) → same a b ≡ true → a ≡ b
unfolding same
same_true true b h = sym h
same_true false true h = h
same_true false false h = refl

-- a power of two has one bit
pub one_bit : (n : ℕ) → 0 < n → n ≤ largest → eqb (bit_and n (n - 1)) 0 ≡ power_of_two n
unfolding same power_to
one_bit zero h l = absurd (omega arith)
one_bit (suc m) h l =
    let e : suc m - 1 ≡ m = omega arith in
    rw e (same_true _ _ (each_to (λ m. same (eqb (bit_and (suc m) m) 0) (power_of_two (suc m))) 15 refl m
    (omega arith)))
