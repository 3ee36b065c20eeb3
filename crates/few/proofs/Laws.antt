-- Shares that stand in single words, as the rules' lists; the AND by its rows, and the addition from its parts.
use Prim.Native.Nat.{ℕ, zero, suc, ◌+◌, ◌-◌, ◌*◌, ◌≤◌, ◌<◌}
use mathlib.Core.Path.{◌≡◌, refl, sym, ap, ◌∙◌}
use mathlib.Core.List.{List, [], ◌∷◌}
use native.Mathlib.Omega.{arith}
use lib.Bits.{bit_xor, bit_and}
use lib.ListN.{length, get_or, set, replicate}
use lib.Seq.{length-take-le}
use Rattle.std.proofs.lemmas.List.{take-replicate}
use Rattle.words.specs.Word.{double}
use Rattle.words.proofs.Words.{xor_swap, shift_xor}
use Rattle.rules.specs.Shares.{each, pass, along, order, cross, and, double_xor, carries, add}
use Rattle.rules.specs.Counts.{and_draws, add_draws}
use Rattle.width.specs.Width.{bits}
use Rattle.rules.proofs.Openings.{each_take}
use Rattle.rules.proofs.Loops.{order_begins, order_next, carries_one, add_made}
use Rattle.few.specs.declared.Few.{Few}
use Rattle.few.specs.declared.Pair.{Pair}
use Rattle.few.specs.Shares.{IsFew, firsts, Crosses, first_row, other_rows}

-- ---- the first n of four words
pub length_firsts : (n : ℕ) (x : Few) → n ≤ 4 → length (firsts n x) ≡ n
unfolding firsts
length_firsts n x h = length-take-le n (x.s0 ∷ x.s1 ∷ x.s2 ∷ x.s3 ∷ []) h

pub firsts_each : (f : ℕ → ℕ → ℕ) (x y : Few) (n : ℕ)
    → firsts n (record {
      s0 = f x.s0 y.s0;
      s1 = f x.s1 y.s1;
      s2 = f x.s2 y.s2;
      s3 = f x.s3 y.s3;
    }) ≡ each f (firsts n x) (firsts n y)
unfolding firsts each
firsts_each f x y n =
    each_take f n (x.s0 ∷ x.s1 ∷ x.s2 ∷ x.s3 ∷ []) (y.s0 ∷ y.s1 ∷ y.s2 ∷ y.s3 ∷ [])

pub firsts_zeros : (n : ℕ) → n ≤ 4 → firsts n (record { s0 = 0; s1 = 0; s2 = 0; s3 = 0 }) ≡ replicate n 0
unfolding firsts
firsts_zeros n h = take-replicate n 4 0 h

-- ---- a list of so many, word by word, and back
pub loaded_one : (x : List ℕ) → length x ≡ 1 → firsts (length x) (record { s0 = get_or x 0 0; s1 = 0; s2 = 0; s3 = 0 })
    ≡ x
unfolding firsts
loaded_one [] e = absurd (omega arith)
loaded_one (a ∷ []) e = refl
loaded_one (a ∷ b ∷ x) e = absurd (omega arith)

pub loaded_two : (x : List ℕ) → length x ≡ 2
    → firsts (length x) (record { s0 = get_or x 0 0; s1 = get_or x 1 0; s2 = 0; s3 = 0 }) ≡ x
unfolding firsts
loaded_two [] e = absurd (omega arith)
loaded_two (a ∷ []) e = absurd (omega arith)
loaded_two (a ∷ b ∷ []) e = refl
loaded_two (a ∷ b ∷ c ∷ x) e = absurd (omega arith)

pub loaded_more : (x : List ℕ) → IsFew (length x)
    → firsts (length x) (record { s0 = get_or x 0 0; s1 = get_or x 1 0; s2 = get_or x 2 0; s3 = get_or x 3 0 }) ≡ x
unfolding firsts
loaded_more [] few = refl
loaded_more (a ∷ []) few = refl
loaded_more (a ∷ b ∷ []) few = refl
loaded_more (a ∷ b ∷ c ∷ []) few = refl
loaded_more (a ∷ b ∷ c ∷ d ∷ []) few = refl
loaded_more (a ∷ b ∷ c ∷ d ∷ e ∷ x) few = absurd (omega arith)

pub stored_one : (z : List ℕ) (x : Few) → length z ≡ 1 → set z 0 x.s0 ≡ firsts (length z) x
unfolding firsts
stored_one [] x e = absurd (omega arith)
stored_one (a ∷ []) x e = refl
stored_one (a ∷ b ∷ z) x e = absurd (omega arith)

pub stored_two : (z : List ℕ) (x : Few) → length z ≡ 2 → set (set z 0 x.s0) 1 x.s1 ≡ firsts (length z) x
unfolding firsts
stored_two [] x e = absurd (omega arith)
stored_two (a ∷ []) x e = absurd (omega arith)
stored_two (a ∷ b ∷ []) x e = refl
stored_two (a ∷ b ∷ c ∷ z) x e = absurd (omega arith)

pub stored_more : (z : List ℕ) (x : Few) → IsFew (length z) → (length z ≡ 1 → ⊥) → (length z ≡ 2 → ⊥)
    → set (set (set (set z 0 x.s0) 1 x.s1) 2 x.s2) 3 x.s3 ≡ firsts (length z) x
unfolding firsts
stored_more [] x few one two = absurd (omega arith)
stored_more (a ∷ []) x few one two = absurd (omega arith)
stored_more (a ∷ b ∷ []) x few one two = absurd (omega arith)
stored_more (a ∷ b ∷ c ∷ []) x few one two = absurd (omega arith)
stored_more (a ∷ b ∷ c ∷ d ∷ []) x few one two = refl
stored_more (a ∷ b ∷ c ∷ d ∷ e ∷ z) x few one two = absurd (omega arith)

-- ---- the AND: the pairs of share 0, then those of shares 1 to 3
module _ (x y : Few) (ws : List ℕ) (at : ℕ) where
  pub row_of_one : (n : ℕ) → n ≡ 1
      → first_row n x y ws at ≡ (firsts n (record { s0 = bit_and x.s0 y.s0; s1 = 0; s2 = 0; s3 = 0 }), at)
  unfolding first_row firsts each pass along
  row_of_one n e = rw e

  pub row_of_two : (p : Pair)
      → Crosses ws at (bit_and x.s0 y.s0) (bit_and x.s1 y.s1) x.s0 y.s0 x.s1 y.s1 p
      → first_row 2 x y ws at ≡ (firsts 2 (record { s0 = p.i; s1 = p.j; s2 = 0; s3 = 0 }), p.at)
  unfolding first_row firsts each pass along
  row_of_two p g = rw (g.0, g.1, g.2)

  pub row_of_four : (p q r : Pair)
      → Crosses ws at (bit_and x.s0 y.s0) (bit_and x.s1 y.s1) x.s0 y.s0 x.s1 y.s1 p
      → Crosses ws p.at p.i (bit_and x.s2 y.s2) x.s0 y.s0 x.s2 y.s2 q
      → Crosses ws q.at q.i (bit_and x.s3 y.s3) x.s0 y.s0 x.s3 y.s3 r
      → first_row 4 x y ws at ≡ (firsts 4 (record { s0 = r.i; s1 = p.j; s2 = q.j; s3 = r.j }), r.at)
  unfolding first_row firsts each pass along
  row_of_four p q r g h l = rw (l.0, l.1, l.2, h.0, h.1, h.2, g.0, g.1, g.2)

module _ (n : ℕ) (x y z : Few) (ws : List ℕ) (at : ℕ) where
  -- fewer than three shares have none
  pub no_others : 0 < n → n < 3 → other_rows n x y z ws at ≡ (firsts n z, at)
  unfolding other_rows pass order along
  no_others h l = go n h l
    where
      go : (n : ℕ) → 0 < n → n < 3
          → pass (cross (firsts n x) (firsts n y)) (order (n - 1) 1) (firsts n z) ws at ≡ (firsts n z, at)
      go zero h l = absurd (omega arith)
      go (suc zero) h l = refl
      go (suc (suc zero)) h l = refl
      go (suc (suc (suc n))) h l = absurd (omega arith)

  pub others_of_more : (t : Few) (p : ℕ) → IsFew n → 3 ≤ n → other_rows 4 x y z ws at ≡ (firsts 4 t, p)
      → other_rows n x y z ws at ≡ (firsts n t, p)
  others_of_more t p few more h = let four : n ≡ 4 = omega arith in rw four h

pub others_of_four : (x y z : Few) (ws : List ℕ) (at : ℕ) (p q r : Pair)
    → Crosses ws at z.s1 z.s2 x.s1 y.s1 x.s2 y.s2 p
    → Crosses ws p.at p.i z.s3 x.s1 y.s1 x.s3 y.s3 q
    → Crosses ws q.at p.j q.j x.s2 y.s2 x.s3 y.s3 r
    → other_rows 4 x y z ws at ≡ (firsts 4 (record { s0 = z.s0; s1 = q.i; s2 = r.i; s3 = r.j }), r.at)
unfolding other_rows firsts pass along order
others_of_four x y z ws at p q r g h l = rw (l.0, l.1, l.2, h.0, h.1, h.2, g.0, g.1, g.2)

-- both together
pub and_made : (n : ℕ) (x y z t : Few) (ws : List ℕ) (at p q : ℕ) → IsFew n
    → first_row n x y ws at ≡ (firsts n z, p) → other_rows n x y z ws p ≡ (firsts n t, q)
    → and (firsts n x) (firsts n y) ws at ≡ (firsts n t, q)
unfolding and first_row other_rows
and_made n x y z t ws at p q few first others =
    let u = firsts n x in
    let v = firsts n y in
    let whole = order_begins n u v (each bit_and u v) ws at (length_firsts n x (omega arith)) refl in
    sym (order_next (cross u v) ws (each bit_and u v) (firsts n z) at p n 0 (and u v ws at) (omega arith) first whole)
    ∙ others

-- ---- words: n − 1 for the first row, three or none for the others
module _ (n at : ℕ) (few : IsFew n) where
  pub others_room : (l : ℕ) → 3 ≤ n → at + and_draws (n - 1) ≤ l → at + 3 ≤ l
  unfolding and_draws
  others_room l h r = let four : n ≡ 4 = omega arith in rw four at r

  pub others_place : (q : ℕ) → 3 ≤ n → q ≡ at + 3 → q ≡ at + and_draws (n - 1)
  unfolding and_draws
  others_place q h e = let four : n ≡ 4 = omega arith in rw four e

  pub none_place : n < 3 → at ≡ at + and_draws (n - 1)
  unfolding and_draws
  none_place h = go n h
    where
      go : (n : ℕ) → n < 3 → at ≡ at + and_draws (n - 1)
      go zero h = omega arith
      go (suc zero) h = omega arith
      go (suc (suc zero)) h = omega arith
      go (suc (suc (suc n))) h = absurd (omega arith)

  rows : and_draws n ≡ n - 1 + and_draws (n - 1)
  unfolding and_draws
  rows = let more : n ≡ suc (n - 1) = omega arith in rw more (rw (← more))

  pub row_room : (l : ℕ) → at + and_draws n ≤ l → at + (n - 1) ≤ l
  row_room l h = omega (arith, rows)

  pub rest_room : (p l : ℕ) → p ≡ at + (n - 1) → at + and_draws n ≤ l → p + and_draws (n - 1) ≤ l
  rest_room p l e h = omega (arith, rows)

  pub two_room : (l : ℕ) → n ≡ 2 → at + and_draws n ≤ l → at < l
  unfolding and_draws
  two_room l e h = let one : at + 1 ≤ l = rw e at h in omega arith

  pub two_place : (q : ℕ) → n ≡ 2 → q ≡ at + 1 → q ≡ at + and_draws n
  unfolding and_draws
  two_place q e h = rw e h

  pub and_place : (p q : ℕ) → p ≡ at + (n - 1) → q ≡ p + and_draws (n - 1) → q ≡ at + and_draws n
  and_place p q e f = omega (arith, rows)

-- ---- the carry loop: one round of two shares, the doubling taken into its terms
pub carries_two : (k : ℕ) (a w u : Few) (ws : List ℕ) (at s t p : ℕ) → s ≡ get_or ws at 0
    → t ≡ double k (bit_xor (bit_xor s (bit_and u.s0 a.s1)) (bit_and u.s1 a.s0)) → p ≡ at + 1
    → carries k (firsts 2 a) (firsts 2 w) 1 (firsts 2 u) ws at
    ≡ (
      firsts 2 (record {
        s0 = double k (bit_xor (bit_xor (bit_and u.s0 a.s0) s) w.s0);
        s1 = bit_xor (double k (bit_xor (bit_and u.s1 a.s1) w.s1)) t;
        s2 = 0;
        s3 = 0;
      }),
      p,
    )
unfolding carries and firsts each pass along order
carries_two k a w u ws at s t p e f g =
    let d = bit_and u.s1 a.s1 in
    let c = bit_xor (bit_xor (get_or ws at 0) (bit_and u.s0 a.s1)) (bit_and u.s1 a.s0) in
    let x = w.s1 in
    let last : bit_xor (double k (bit_xor d x)) (double k c) ≡ double k (bit_xor (bit_xor d c) x) =
    sym (shift_xor k 1 (bit_xor d x) c) ∙ ap (double k) (xor_swap d x c) in
    rw (f, g, e, last)

pub doubled : (k a b h r : ℕ) → h ≡ double k a → r ≡ bit_xor h (double k b) → r ≡ double k (bit_xor a b)
doubled k a b h r e f = f ∙ rw e (sym (shift_xor k 1 a b))

-- one round: two shares have their own, the others the AND by its rows and a doubling
module _ (k n : ℕ) (a w u z : Few) (ws : List ℕ) (at : ℕ) where
  pub round_of_two : (p : ℕ) → n ≡ 2
      → carries k (firsts 2 a) (firsts 2 w) 1 (firsts 2 u) ws at ≡ (firsts 2 z, p)
      → carries k (firsts n a) (firsts n w) 1 (firsts n u) ws at ≡ (firsts n z, p)
  round_of_two p e h = rw e h

  pub round_made : (t v : Few) (p q : ℕ) → IsFew n
      → first_row n u a ws at ≡ (firsts n z, p) → other_rows n u a z ws p ≡ (firsts n t, q)
      → ((m : ℕ) → firsts m v ≡ each (double_xor k) (firsts m t) (firsts m w))
      → carries k (firsts n a) (firsts n w) 1 (firsts n u) ws at ≡ (firsts n v, q)
  round_made t v p q few first others doubled =
      carries_one k (firsts n a) (firsts n w) (firsts n u) ws at (firsts n t) (firsts n v) q
      (and_made n u a z t ws at p q few first others) (doubled n)

-- ---- the sum
pub sum_made : (k n : ℕ) (x y z w a u s : Few) (ws : List ℕ) (at p q r : ℕ) → IsFew n
    → first_row n x y ws at ≡ (firsts n z, p) → other_rows n x y z ws p ≡ (firsts n w, q)
    → ((m : ℕ) → firsts m a ≡ each bit_xor (firsts m x) (firsts m y))
    → carries k (firsts n a) (firsts n w) (k - 1) (replicate n 0) ws q ≡ (firsts n u, r)
    → ((m : ℕ) → firsts m s ≡ each bit_xor (firsts m a) (firsts m u))
    → add k (firsts n x) (firsts n y) ws at ≡ (firsts n s, r)
sum_made k n x y z w a u s ws at p q r few first others xored carried last =
    add_made k n ws (firsts n x) (firsts n y) (firsts n w) (firsts n a) (replicate n 0) (firsts n u) (firsts n s) at q r
    (length_firsts n x (omega arith)) (and_made n x y z w ws at p q few first others) (xored n) refl carried (last n)

-- its words: those of an AND, then k − 1 times as many
module _ (n at l : ℕ) (few : IsFew n) (room : at + add_draws bits n ≤ l) where
  pub sum_first : at + (n - 1) ≤ l
  sum_first = omega (arith, rows n at few)

  pub sum_others : (p : ℕ) → p ≡ at + (n - 1) → p + and_draws (n - 1) ≤ l
  sum_others p e = omega (arith, rows n at few)

  pub sum_carry : (p q : ℕ) → p ≡ at + (n - 1) → q ≡ p + and_draws (n - 1) → q + (bits - 1) * and_draws n ≤ l
  sum_carry p q e f = omega (arith, rows n at few)

pub sum_place : (n at p q r : ℕ) → IsFew n → p ≡ at + (n - 1) → q ≡ p + and_draws (n - 1)
    → r ≡ q + (bits - 1) * and_draws n → r ≡ at + add_draws bits n
sum_place n at p q r few e f g = omega (arith, rows n at few)

-- from slices and back
pub added : (k : ℕ) (x y z ws : List ℕ) (u v s : Few) (at q : ℕ) → length y ≡ length x
    → firsts (length x) u ≡ x → firsts (length y) v ≡ y
    → add k (firsts (length x) u) (firsts (length x) v) ws at ≡ (firsts (length x) s, q) → z ≡ firsts (length x) s
    → add k x y ws at ≡ (z, q)
added k x y z ws u v s at q same e f h i =
    let whole = rw (e, rw same at f) at h in whole ∙ ap (λ (l : List ℕ). (l, q)) (sym i)
