-- The conversions of n shares keep the secret both ways, with any addition and any refresh that do their part.
use Prim.Native.Nat.{ℕ, zero, suc, ◌+◌, ◌-◌, ◌*◌, ◌/◌, ◌%◌, ◌^◌, ◌≤◌, ◌<◌}
use mathlib.Core.Path.{◌≡◌, refl, sym, ap, ◌∙◌}
use mathlib.Core.Bool.{Bool, true, false}
use mathlib.Core.List.{List, [], ◌∷◌, ◌++◌, map}
use native.Mathlib.Nat.{mod-lt, mod-eq_of_lt, add-mod, add-mod-mod, add-zero, add_assoc, zero-mod, pow-suc}
use native.Mathlib.Omega.{arith}
use lib.Bits.{xor_zero_r}
use lib.Dec.{eqb, leb}
use lib.ListN.{length, take, drop, replicate, length-append, length-drop, length-map, length-replicate}
use lib.ListN.{take-append-drop}
use lib.Pow.{pow_pos}
use lib.Seq.{length-take-le, get_or-drop}
use borrow.Author.Tests.{eqb-true, eq-eqb, leb-true, le-leb, lt-leb, leb-false}
use Rattle.words.specs.Word.{plus, minus}
use Rattle.words.proofs.Words.{plus_mod, plus_minus, plus_lt, minus_lt}
use Rattle.rules.specs.Supply.{Draw, Rule, Shares, Words, next, opened, total, opened_sum}
use Rattle.rules.specs.Shares.{refresh_last, refresh, expand, add}
use Rattle.rules.specs.Numbers.{choose, either}
use Rattle.rules.specs.Convert.{Adder, Refresh, power_to, power_of_two, widen, halved, to_bool_in, to_bool, to_arith}
use Rattle.rules.specs.Counts.{add_draws, refresh_draws, widen_draws, to_bool_draws_in, to_bool_draws, to_arith_draws}
use Rattle.rules.proofs.Rule.{give, bind, counted, said, alike, next_rule}
use Rattle.rules.proofs.Openings.{opened_append, opened_zeros, total_append}
use Rattle.rules.proofs.Pairs.{refresh_rule, refresh_last_rule}
use Rattle.rules.proofs.Addition.{add_rule, expand_rule}

-- ---- what is asked of an addition that draws d n words, and of a refresh that draws e n
abbrev pub Adds : ℕ → (ℕ → ℕ) → Adder → Type 0
Adds k d adder =
    (n : ℕ) (x y : List ℕ) → length x ≡ n → length y ≡ n → opened x < 2 ^ k → opened y < 2 ^ k
    → Rule (d n) (Shares n (plus k (opened x) (opened y))) (adder x y)

abbrev pub Refreshes : (ℕ → ℕ) → Refresh → Type 0
Refreshes e fresh = (n : ℕ) (x : List ℕ) → length x ≡ n → Rule (e n) (Shares n (opened x)) (fresh x)

pub add_adds : (k : ℕ) → 0 < k → Adds k (add_draws k) (add k)
add_adds k hk n x y = add_rule k n x y hk

pub refresh_refreshes : Refreshes refresh_draws refresh
refresh_refreshes = refresh_rule

-- ---- powers of two
power_of : (m n : ℕ) → power_to m n ≡ true → (p : ℕ) × (n ≡ 2 ^ p)
unfolding power_to
power_of zero n h = (0, eqb-true n 1 h)
power_of (suc m) n h = go (power_to m n) (power_of m n) h
  where
    go : (b : Bool) → (b ≡ true → (p : ℕ) × (n ≡ 2 ^ p)) → either b (eqb n (2 ^ suc m)) ≡ true → (p : ℕ) × (n ≡ 2 ^ p)
    go true below h = below refl
    go false below h = (suc m, eqb-true n (2 ^ suc m) h)

power_to_lem : (p m : ℕ) → p ≤ m → power_to m (2 ^ p) ≡ true
unfolding power_to
power_to_lem p zero h = let e : p ≡ 0 = omega arith in rw e
power_to_lem p (suc m) h = go (leb p m) refl (power_to_lem p m)
  where
    last : (b : Bool) → either b true ≡ true
    last true = refl
    last false = refl

    go : (b : Bool) → leb p m ≡ b → (p ≤ m → power_to m (2 ^ p) ≡ true)
        → either (power_to m (2 ^ p)) (eqb (2 ^ p) (2 ^ suc m)) ≡ true
    go true e below = rw (below (leb-true p m e))
    go false e below =
        let l = leb-false p m e in
        let is : p ≡ suc m = omega arith in
        rw (is, eq-eqb (2 ^ suc m) (2 ^ suc m) refl) (last (power_to m (2 ^ suc m)))

power_above : (p : ℕ) → p ≤ 2 ^ p
power_above zero = omega arith
power_above (suc p) = omega (arith, power_above p, pow-suc 2 p, pow_pos p)

-- above one they are even
pub power_even : (n : ℕ) → power_of_two n ≡ true → 1 < n → n ≡ n / 2 * 2
power_even n h more = go (power_of n n h).0 (power_of n n h).1
  where
    go : (p : ℕ) → n ≡ 2 ^ p → n ≡ n / 2 * 2
    go zero e = absurd (omega arith)
    go (suc p) e = omega (arith, pow-suc 2 p)

-- ---- m of n shares brought to n
widen_rule : (n : ℕ) (x : List ℕ) → length x ≤ n → (power_of_two n ≡ true → length x * 2 ≡ n)
    → Rule (widen_draws n (length x)) (Shares n (opened x)) (widen n x)
unfolding widen
widen_rule n x few even = go (power_of_two n) even
  where
    filled : List ℕ
    filled = x ++ replicate (n - length x) 0

    all : length filled ≡ n
    all = simp (length-append, length-replicate) (omega arith)

    same : opened filled ≡ opened x
    same =
        opened_append x (replicate (n - length x) 0)
        ∙ rw (opened_zeros (n - length x)) (xor_zero_r (opened x))

    go : (b : Bool) → (b ≡ true → length x * 2 ≡ n)
        → Rule (choose b (length x) (n - 1)) (Shares n (opened x)) (choose b (expand x) (refresh_last filled))
    go true e = said (expand_rule (length x) x refl) refl (λ z g. (g.0 ∙ e refl, g.1))
    go false e = said (refresh_last_rule n filled all) refl (λ z g. (g.0, g.1 ∙ same))

-- ---- halves
module _ (a : List ℕ) where
  pub length_left : length (take (length a / 2) a) ≡ length a / 2
  length_left = length-take-le (length a / 2) a (omega arith)

  pub length_right : length (drop (length a / 2) a) ≡ length a - length a / 2
  length_right = length-drop (length a / 2) a

total_halves : (h : ℕ) (a : List ℕ) → total (take h a) + total (drop h a) ≡ total a
total_halves h a = sym (total_append (take h a) (drop h a)) ∙ ap total (take-append-drop h a)

pub words_take : (k n : ℕ) (a : List ℕ) → Words k a → Words k (take n a)
words_take k zero a h i = pow_pos k
words_take k (suc n) [] h i = pow_pos k
words_take k (suc n) (x ∷ a) h zero = h 0
words_take k (suc n) (x ∷ a) h (suc i) = words_take k n a (λ j. h (suc j)) i

words_next : (k : ℕ) (ws : List ℕ) → Words k ws → (m at : ℕ) → Words k (next m ws at).0
unfolding next
words_next k ws h zero at i = pow_pos k
words_next k ws h (suc m) at zero = h at
words_next k ws h (suc m) at (suc i) = words_next k ws h m (at + 1) i

words_last : (k : ℕ) (x : List ℕ) (y : ℕ) → Words k x → y < 2 ^ k → Words k (x ++ (y ∷ []))
words_last k [] y h l zero = l
words_last k [] y h l (suc i) = pow_pos k
words_last k (a ∷ x) y h l zero = h 0
words_last k (a ∷ x) y h l (suc i) = words_last k x y (λ j. h (suc j)) l i

pub words_drop : (k n : ℕ) (a : List ℕ) → Words k a → Words k (drop n a)
words_drop k n a h i = rw (get_or-drop n a i 0) (h (n + i))

-- one share is its own sum
pub one_adds : (k : ℕ) (a : List ℕ) → length a ≤ 1 → Words k a → opened_sum k a ≡ opened a
unfolding opened total
one_adds k [] h w = zero-mod (2 ^ k)
one_adds k (x ∷ []) h w = rw (add-zero x, xor_zero_r x) (mod-eq_of_lt (w 0))
one_adds k (x ∷ y ∷ a) h w = absurd (omega arith)

-- ---- the depth allowed does not matter, so long as it is enough
halved_same : (f g : List ℕ → Draw (List ℕ)) (adder : Adder) (a ws : List ℕ) (at : ℕ) → 1 < length a
    → ((b : List ℕ) (s : ℕ) → length b < length a → f b ws s ≡ g b ws s)
    → halved f adder a ws at ≡ halved g adder a ws at
unfolding halved
halved_same f g adder a ws at l e =
    let left = g (take (length a / 2) a) ws at in
    rw (
      e (take (length a / 2) a) at (omega (arith, length_left a)),
      e (drop (length a / 2) a) (widen (length a) left.0 ws left.1).1 (omega (arith, length_right a)),
    )

-- what becomes of more than one share decides
choose_same : {A : Type 0} (n : ℕ) (x y z : A) → (1 < n → y ≡ z) → choose (leb n 1) x y ≡ choose (leb n 1) x z
choose_same n x y z same = go (leb n 1) refl
  where
    go : (t : Bool) → leb n 1 ≡ t → choose t x y ≡ choose t x z
    go true e = refl
    go false e = same (leb-false n 1 e)

to_bool_in_enough : (adder : Adder) (deep more : ℕ) (a ws : List ℕ) (at : ℕ) → length a ≤ deep → length a ≤ more
    → to_bool_in adder deep a ws at ≡ to_bool_in adder more a ws at
unfolding to_bool_in
to_bool_in_enough adder zero zero a ws at h l = refl
to_bool_in_enough adder zero (suc more) a ws at h l = rw (le-leb (length a) 1 (omega arith))
to_bool_in_enough adder (suc deep) zero a ws at h l = rw (le-leb (length a) 1 (omega arith))
to_bool_in_enough adder (suc deep) (suc more) a ws at h l =
    choose_same (length a) (a, at) _ _ (λ many.
    halved_same (to_bool_in adder deep) (to_bool_in adder more) adder a ws at many (λ b s u.
    to_bool_in_enough adder deep more b ws s (omega arith) (omega arith)))

-- one share stays
pub to_bool_one : (adder : Adder) (a ws : List ℕ) (at : ℕ) → length a ≤ 1 → to_bool adder a ws at ≡ (a, at)
unfolding to_bool to_bool_in
to_bool_one adder [] ws at h = refl
to_bool_one adder (x ∷ a) ws at h = rw (le-leb (length (x ∷ a)) 1 h)

-- more go by halves
pub to_bool_more : (adder : Adder) (a ws : List ℕ) (at : ℕ) → 1 < length a
    → to_bool adder a ws at ≡ halved (to_bool adder) adder a ws at
unfolding to_bool to_bool_in
to_bool_more adder [] ws at h = absurd (omega arith)
to_bool_more adder (x ∷ a) ws at h =
    rw (lt-leb (length (x ∷ a)) 1 h)
    (halved_same (to_bool_in adder (length a)) (to_bool adder) adder (x ∷ a) ws at h (λ b s l.
    to_bool_in_enough adder (length a) (length b) b ws s (omega arith) (omega arith)))

to_bool_draws_in_enough : (d : ℕ → ℕ) (deep more n : ℕ) → n ≤ deep → n ≤ more
    → to_bool_draws_in d deep n ≡ to_bool_draws_in d more n
unfolding to_bool_draws_in
to_bool_draws_in_enough d zero zero n h l = refl
to_bool_draws_in_enough d zero (suc more) n h l = rw (le-leb n 1 (omega arith))
to_bool_draws_in_enough d (suc deep) zero n h l = rw (le-leb n 1 (omega arith))
to_bool_draws_in_enough d (suc deep) (suc more) n h l =
    choose_same n 0 _ _ (λ many.
    rw (
      to_bool_draws_in_enough d deep more (n / 2) (omega arith) (omega arith),
      to_bool_draws_in_enough d deep more (n - n / 2) (omega arith) (omega arith),
    ))

pub draws_one : (d : ℕ → ℕ) (n : ℕ) → n ≤ 1 → to_bool_draws d n ≡ 0
unfolding to_bool_draws to_bool_draws_in
draws_one d zero h = refl
draws_one d (suc n) h = rw (le-leb (suc n) 1 h)

-- m of n shares, converted and widened
abbrev pub half_draws : (ℕ → ℕ) → ℕ → ℕ → ℕ
half_draws d n m = to_bool_draws d m + widen_draws n m

pub draws_more : (d : ℕ → ℕ) (n : ℕ) → 1 < n
    → to_bool_draws d n ≡ half_draws d n (n / 2) + half_draws d n (n - n / 2) + d n
unfolding to_bool_draws to_bool_draws_in
draws_more d zero h = absurd (omega arith)
draws_more d (suc n) h =
    let left = suc n / 2 in
    let right = suc n - suc n / 2 in
    rw (
      lt-leb (suc n) 1 h,
      to_bool_draws_in_enough d n left left (omega arith) (omega arith),
      to_bool_draws_in_enough d n right right (omega arith) (omega arith),
    )

-- of a power of two, and of any other count
pub draws_power : (d : ℕ → ℕ) (n p : ℕ) → 1 < n → n ≡ 2 ^ p → to_bool_draws d n ≡ 2 * to_bool_draws d (n / 2) + n + d n
draws_power d n p h e =
    let power : power_of_two n ≡ true = rw e (power_to_lem p (2 ^ p) (power_above p)) in
    let even = power_even n power h in
    let half : n - n / 2 ≡ n / 2 = omega arith in
    draws_more d n h ∙ rw (power, half) (omega arith)

pub draws_other : (d : ℕ → ℕ) (n : ℕ) → 1 < n → ((p : ℕ) → n ≡ 2 ^ p → ⊥)
    → to_bool_draws d n ≡ to_bool_draws d (n / 2) + to_bool_draws d (n - n / 2) + 2 * (n - 1) + d n
draws_other d n h none = draws_more d n h ∙ go (power_of_two n) refl
  where
    left : ℕ
    left = to_bool_draws d (n / 2)

    right : ℕ
    right = to_bool_draws d (n - n / 2)

    go : (b : Bool) → power_of_two n ≡ b
        → left + choose b (n / 2) (n - 1) + (right + choose b (n - n / 2) (n - 1)) + d n
        ≡ left + right + 2 * (n - 1) + d n
    go true e = absurd (none (power_of n n e).0 (power_of n n e).1)
    go false e = omega arith

-- ---- −A1, …, −A(n−1), 0
abbrev pub negatives : ℕ → List ℕ → List ℕ
negatives k A = map (minus k 0) A ++ (0 ∷ [])

pub length_negatives : (k : ℕ) (A : List ℕ) → length (negatives k A) ≡ length A + 1
length_negatives k A = simp (length-append, length-map)

words_negatives : (k : ℕ) (A : List ℕ) → Words k (negatives k A)
words_negatives k [] zero = pow_pos k
words_negatives k [] (suc i) = pow_pos k
words_negatives k (a ∷ A) zero = minus_lt k 0 a
words_negatives k (a ∷ A) (suc i) = words_negatives k A i

module _ (k : ℕ) (d : ℕ → ℕ) (adder : Adder) (adds : Adds k d adder) where
  -- ---- arithmetic to Boolean
  abbrev Converts : List ℕ → Type 0
  Converts a = Rule (to_bool_draws d (length a)) (Shares (length a) (opened_sum k a)) (to_bool adder a)

  one_rule : (a : List ℕ) → length a ≡ 1 → Words k a → Converts a
  one_rule a h w =
      alike (λ ws at. to_bool_one adder a ws at (omega arith))
      (counted
      (give (Shares (length a) (opened_sum k a)) a (refl, sym (one_adds k a (omega arith) w)))
      (sym (draws_one d (length a) (omega arith))))

  -- a half of n shares, converted and widened
  half_rule : (n : ℕ) (a : List ℕ) → Converts a → length a ≤ n → (power_of_two n ≡ true → length a * 2 ≡ n)
      → Rule (half_draws d n (length a)) (Shares n (opened_sum k a))
      (λ ws at. let b = to_bool adder a ws at in widen n b.0 ws b.1)
  half_rule n a converts few even =
      bind converts (λ x ix.
      said (widen_rule n x (omega arith) (λ e. rw ix.0 (even e))) (ap (widen_draws n) ix.0)
      (λ z g. (g.0, g.1 ∙ ix.1)))

  -- both halves, and their sum
  halves_rule : (a : List ℕ) → 1 < length a
      → (let h = length a / 2 in Converts (take h a) → Converts (drop h a) → Converts a)
  unfolding halved
  halves_rule a more left right =
      let n = length a in
      let u = take (n / 2) a in
      let o = drop (n / 2) a in
      let lu : length u ≡ n / 2 = length_left a in
      let lo : length o ≡ n - n / 2 = length_right a in
      let low : (t : ℕ) → t % 2 ^ k < 2 ^ k = λ t. mod-lt t (pow_pos k) in
      alike (λ ws at. to_bool_more adder a ws at more)
      (counted
      (bind (half_rule n u left (omega arith) (λ e. omega (arith, power_even n e more))) (λ x ix.
      bind (half_rule n o right (omega arith) (λ e. omega (arith, power_even n e more))) (λ y iy.
      said (adds n x y ix.0 iy.0 (rw ix.1 (low (total u))) (rw iy.1 (low (total o)))) refl (λ z g. (
        g.0,
        g.1 ∙ rw (ix.1, iy.1) (plus_mod k (total u) (total o) ∙ ap (λ t. t % 2 ^ k) (total_halves (n / 2) a)),
      )))))
      (rw (lu, lo) (sym (draws_more d n more ∙ omega arith))))

  -- of at most m shares
  within_rule : (m : ℕ) (a : List ℕ) → length a ≤ m → 0 < length a → Words k a → Converts a
  within_rule zero a few some w = absurd (omega arith)
  within_rule (suc m) a few some w = go (leb (length a) 1) refl (within_rule m)
    where
      go : (b : Bool) → leb (length a) 1 ≡ b
          → ((a : List ℕ) → length a ≤ m → 0 < length a → Words k a → Converts a) → Converts a
      go true e below = one_rule a (omega (arith, leb-true (length a) 1 e)) w
      go false e below =
          let h = length a / 2 in
          let more = leb-false (length a) 1 e in
          let lu = length_left a in
          let lo = length_right a in
          halves_rule a more
          (below (take h a) (omega arith) (omega arith) (words_take k h a w))
          (below (drop h a) (omega arith) (omega arith) (words_drop k h a w))

  pub to_bool_rule : (a : List ℕ) → 0 < length a → Words k a → Converts a
  to_bool_rule a = within_rule (length a) a (omega arith)

  -- ---- Boolean to arithmetic
  module _ (e : ℕ → ℕ) (fresh : Refresh) (freshens : Refreshes e fresh)
      (x : List ℕ) (some : 0 < length x) (hx : opened x < 2 ^ k) where
    negatives_rule : (A : List ℕ) → length A ≡ length x - 1
        → Rule (to_bool_draws d (length x))
        (Shares (length x) (opened_sum k (negatives k A)))
        (to_bool adder (negatives k A))
    negatives_rule A h =
        let l : length (negatives k A) ≡ length x = length_negatives k A ∙ omega arith in
        said
        (to_bool_rule (negatives k A) (omega arith) (words_negatives k A))
        (ap (to_bool_draws d) l)
        (λ z g. (g.0 ∙ l, g.1))

    add_x : (A b : List ℕ) → Shares (length x) (opened_sum k (negatives k A)) b
        → Rule (d (length x)) (Shares (length x) (plus k (opened x) (opened_sum k (negatives k A)))) (adder x b)
    add_x A b g =
        said (adds (length x) x b refl g.0 hx (rw g.1 (mod-lt (total (negatives k A)) (pow_pos k)))) refl
        (λ z h. (h.0, h.1 ∙ ap (plus k (opened x)) g.1))

    pub to_arith_rule : Rule (to_arith_draws d e (length x)) (λ z. length z ≡ length x) (to_arith k adder fresh x)
    unfolding to_arith
    to_arith_rule =
        counted
        (bind (next_rule (length x - 1)) (λ A h.
        bind (negatives_rule A h) (λ b ib.
        bind (add_x A b ib) (λ s is.
        bind (freshens (length x) s is.0) (λ y iy.
        give (λ z. length z ≡ length x) (A ++ (opened y ∷ []))
        (length-append A (opened y ∷ []) ∙ omega arith))))))
        (omega arith)

    -- a list and its negatives come to nothing
    away : (A : List ℕ) → Words k A → (total A + total (negatives k A)) % 2 ^ k ≡ 0
    unfolding total plus
    away [] w = zero-mod (2 ^ k)
    away (a ∷ A) w =
        let s = minus k 0 a in
        let t = total (negatives k A) in
        let order : a + total A + (s + t) ≡ s + a + (total A + t) = omega arith in
        ap (λ n. n % 2 ^ k) order
        ∙ add-mod (s + a) (total A + t) (2 ^ k)
        ∙ rw (plus_minus k 0 a (pow_pos k) (w 0), away A (λ i. w (suc i))) (zero-mod (2 ^ k))

    -- the sum of A and x − A
    back : (m s a t : ℕ) → s < m → (a + t) % m ≡ 0 → (a + ((s + t % m) % m + 0)) % m ≡ s
    back m s a t h z =
        let order : a + s + t ≡ s + (a + t) = omega arith in
        let none : s + 0 ≡ s = omega arith in
        ap (λ n. (a + n) % m) (add-zero ((s + t % m) % m))
        ∙ add-mod-mod a (s + t % m) m
        ∙ ap (λ n. n % m) (sym (add_assoc a s (t % m)))
        ∙ add-mod-mod (a + s) t m
        ∙ ap (λ n. n % m) order
        ∙ sym (add-mod-mod s (a + t) m)
        ∙ rw (z, none) (mod-eq_of_lt h)

    -- An, the XOR of the sum's shares
    abbrev last : List ℕ → ℕ → ℕ
    last ws at =
        let A = next (length x - 1) ws at in
        let b = to_bool adder (negatives k A.0) ws A.1 in
        let s = adder x b.0 ws b.1 in
        opened (fresh s.0 ws s.1).0

    last_is : (ws : List ℕ) (at : ℕ)
        → last ws at ≡ plus k (opened x) (opened_sum k (negatives k (next (length x - 1) ws at).0))
    last_is ws at =
        let A = next (length x - 1) ws at in
        let b = to_bool adder (negatives k A.0) ws A.1 in
        let s = adder x b.0 ws b.1 in
        let ib = (negatives_rule A.0 ((next_rule (length x - 1)).makes ws at)).makes ws A.1 in
        let is = (add_x A.0 b.0 ib).makes ws b.1 in
        ((freshens (length x) s.0 is.0).makes ws s.1).1 ∙ is.1

    pub to_arith_opens : (ws : List ℕ) (at : ℕ) → Words k ws
        → opened_sum k (to_arith k adder fresh x ws at).0 ≡ opened x
    unfolding to_arith total plus
    to_arith_opens ws at hw =
        let A = (next (length x - 1) ws at).0 in
        let none = away A (words_next k ws hw (length x - 1) at) in
        ap (λ m. m % 2 ^ k) (total_append A (last ws at ∷ []))
        ∙ rw (last_is ws at) (back (2 ^ k) (opened x) (total A) (total (negatives k A)) hx none)

    words_to_arith : (ws : List ℕ) (at : ℕ) → Words k ws → Words k (to_arith k adder fresh x ws at).0
    unfolding to_arith
    words_to_arith ws at hw =
        let A = (next (length x - 1) ws at).0 in
        words_last k A (last ws at) (words_next k ws hw (length x - 1) at)
        (rw (last_is ws at) (plus_lt k (opened x) (opened_sum k (negatives k A))))

    -- there and back, from Boolean shares
    pub there_and_back : (ws vs : List ℕ) (at from : ℕ) → Words k ws
        → opened (to_bool adder (to_arith k adder fresh x ws at).0 vs from).0 ≡ opened x
    there_and_back ws vs at from hw =
        let a = (to_arith k adder fresh x ws at).0 in
        let sized = to_arith_rule.makes ws at in
        ((to_bool_rule a (omega arith) (words_to_arith ws at hw)).makes vs from).1
        ∙ to_arith_opens ws at hw

  -- and from arithmetic shares
  pub back_and_there : (e : ℕ → ℕ) (fresh : Refresh) → Refreshes e fresh
      → (a ws vs : List ℕ) (at from : ℕ) → 0 < length a → Words k a → Words k vs
      → opened_sum k (to_arith k adder fresh (to_bool adder a ws at).0 vs from).0 ≡ opened_sum k a
  back_and_there e fresh freshens a ws vs at from some ha hv =
      let g = (to_bool_rule a some ha).makes ws at in
      let low : opened (to_bool adder a ws at).0 < 2 ^ k = rw g.1 (mod-lt (total a) (pow_pos k)) in
      to_arith_opens e fresh freshens (to_bool adder a ws at).0 (omega arith) low vs from hv ∙ g.1
