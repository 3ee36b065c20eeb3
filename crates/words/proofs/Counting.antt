-- Counts do not change under an invertible change of the words counted over. A step of a secret x and of the pair
-- (r, g) is `Free` where its count is, at every secret, that of a step in which the secret does not stand; the movers
-- carry this from step to step.
use mathlib.Core.Path.{◌≡◌, refl, sym, ap, ap₂, ◌∙◌}
use mathlib.Core.List.{List, [], ◌∷◌}
use Prim.Native.Nat.{ℕ, zero, suc, ◌+◌, ◌*◌, ◌/◌, ◌%◌, ◌^◌, ◌≤◌, ◌<◌, min}
use native.Mathlib.Nat.{mod-eq_of_lt, pow-suc, not-suc-le-zero, add_comm, add-zero, lt_of_le_of_lt}
use native.Mathlib.Numerals.{add-one}
use native.Mathlib.Decide.{ℕ_discrete}
use native.Mathlib.Omega.{arith}
use lib.Arith.{lt-one}
use lib.Bits.{bit_xor, bit_and, differ, xor_lt, and_mod, and_le_r, xor_zero_r, and_zero_r}
use lib.ListN.{get_or}
use lib.Pow.{pow_pos}
use borrow.Author.Tests.{eq-eqb, ne_eqb}
use Rattle.words.specs.Word.{minus, shift, double}
use Rattle.words.specs.Count.{Probe, sum, hit, one, pairs}
use Rattle.words.proofs.Bits.{differ_lt, xor_digit, and_digit, digits}
use Rattle.words.proofs.Words.{minus_lt, minus_minus, xor_back}

-- ---- sums
sum_ext : (n : ℕ) (f g : ℕ → ℕ) → ((x : ℕ) → x < n → f x ≡ g x) → sum n f ≡ sum n g
unfolding sum
sum_ext zero f g h = refl
sum_ext (suc n) f g h = ap₂ (λ (x y : ℕ). x + y) (sum_ext n f g (λ x l. h x (omega arith))) (h n (omega arith))

sum_zero : (n : ℕ) → sum n (λ x. 0) ≡ 0
unfolding sum
sum_zero zero = refl
sum_zero (suc n) = omega (arith, sum_zero n)

sum_add : (n : ℕ) (f g : ℕ → ℕ) → sum n (λ x. f x + g x) ≡ sum n f + sum n g
unfolding sum
sum_add zero f g = refl
sum_add (suc n) f g = omega (arith, sum_add n f g)

sum_swap : (n m : ℕ) (f : ℕ → ℕ → ℕ) → sum n (λ x. sum m (f x)) ≡ sum m (λ y. sum n (λ x. f x y))
unfolding sum
sum_swap zero m f = sym (sum_zero m)
sum_swap (suc n) m f = ap (λ s. s + sum m (f n)) (sum_swap n m f) ∙ sym (sum_add m (λ y. sum n (λ x. f x y)) (f n))

hit_eq : (a b : ℕ) → a ≡ b → hit a b ≡ 1
unfolding hit
hit_eq a b e = ap one (eq-eqb a b e)

hit_ne : (a b : ℕ) → (a ≡ b → ⊥) → hit a b ≡ 0
unfolding hit
hit_ne a b e = ap one (ne_eqb a b e)

sum_miss : (n c : ℕ) (f : ℕ → ℕ) → n ≤ c → sum n (λ y. hit y c * f y) ≡ 0
unfolding sum
sum_miss zero c f h = refl
sum_miss (suc n) c f h = rw (sum_miss n c f (omega arith), hit_ne n c (omega arith)) (omega arith)

sum_pick : (n c : ℕ) (f : ℕ → ℕ) → c < n → sum n (λ y. hit y c * f y) ≡ f c
unfolding sum
sum_pick zero c f h = absurd (not-suc-le-zero h)
sum_pick (suc n) c f h = go (sum_pick n c f) (ℕ_discrete n c)
  where
    go : (c < n → sum n (λ y. hit y c * f y) ≡ f c) → Dec (n ≡ c)
        → sum n (λ y. hit y c * f y) + hit n c * f n ≡ f c
    go ih (yes e) = rw (sum_miss n c f (omega arith), hit_eq n c e, e) (omega arith)
    go ih (no e) = rw (ih (omega arith), hit_ne n c e) (omega arith)

-- a sum over the same numbers in another order: σ undoes itself
module _ (n : ℕ) (σ : ℕ → ℕ) (low : (x : ℕ) → x < n → σ x < n) (undone : (x : ℕ) → x < n → σ (σ x) ≡ x) where
  hit_flip : (x y : ℕ) → x < n → y < n → hit y (σ x) ≡ hit x (σ y)
  hit_flip x y hx hy = go (ℕ_discrete y (σ x))
    where
      go : Dec (y ≡ σ x) → hit y (σ x) ≡ hit x (σ y)
      go (yes e) = hit_eq y (σ x) e ∙ sym (hit_eq x (σ y) (sym (undone x hx) ∙ ap σ (sym e)))
      go (no e) = hit_ne y (σ x) e ∙ sym (hit_ne x (σ y) (λ q. e (sym (undone y hy) ∙ ap σ (sym q))))

  sum_invol : (f : ℕ → ℕ) → sum n (λ x. f (σ x)) ≡ sum n f
  sum_invol f =
      sum_ext n (λ x. f (σ x)) (λ x. sum n (λ y. hit y (σ x) * f y)) (λ x h. sym (sum_pick n (σ x) f (low x h)))
      ∙ sum_swap n n (λ x y. hit y (σ x) * f y)
      ∙ sum_ext n (λ y. sum n (λ x. hit y (σ x) * f y)) f column
    where
      column : (y : ℕ) → y < n → sum n (λ x. hit y (σ x) * f y) ≡ f y
      column y hy =
          sum_ext n _ (λ x. hit x (σ y) * f y) (λ x hx. ap (λ z. z * f y) (hit_flip x y hx hy))
          ∙ sum_pick n (σ y) (λ x. f y) (low y hy)

-- ---- the change g ↦ g ⊕ (2g ∧ m) ⊕ c, digit by digit: b is the digit that comes in from below
abbrev turned : ℕ → ℕ → ℕ → ℕ → ℕ
turned b m c g = bit_xor (bit_xor g (bit_and (g * 2 + b) m)) c

turned_digit : (b m c h d : ℕ) → b < 2 → d < 2
    → turned b m c (h * 2 + d) ≡ turned d (m / 2) (c / 2) h * 2 + differ (differ d (min b (m % 2))) (c % 2)
turned_digit b m c h d hb hd =
    let g = h * 2 + d in
    let z = min b (m % 2) in
    let p = and_digit (g * 2 + b) m g (m / 2) b (m % 2) refl hb (omega arith) (omega arith) in
    let q = xor_digit g (bit_and (g * 2 + b) m) h (bit_and g (m / 2)) d z refl hd p (omega arith) in
    let low = differ_lt d z hd (omega arith) in
    xor_digit (bit_xor g (bit_and (g * 2 + b) m)) c _ (c / 2) (differ d z) (c % 2) q low (omega arith) (omega arith)

sum_two : (n : ℕ) (f : ℕ → ℕ) → sum (n * 2) f ≡ sum n (λ h. f (h * 2 + 0) + f (h * 2 + 1))
unfolding sum
sum_two zero f = refl
sum_two (suc n) f =
    let twice : suc n * 2 ≡ suc (suc (n * 2)) = omega arith in
    rw (twice, add-zero (n * 2), add-one (n * 2)) (omega (arith, sum_two n f))

flip : (f : ℕ → ℕ) (n q : ℕ) → q < 2 → f (n + q) + f (n + differ 1 q) ≡ f (n + 0) + f (n + 1)
flip f n zero h = refl
flip f n (suc zero) h = add_comm (f (n + 1)) (f (n + 0))
flip f n (suc (suc q)) h = omega arith

flipped : (b c d : ℕ) → b < 2 → c < 2 → d < 2 → differ (differ 1 b) c ≡ differ 1 (differ b c)
flipped = digits (λ b c d. differ (differ 1 b) c) (λ b c d. differ 1 (differ b c)) tt

sum_turned : (k b m c : ℕ) (f : ℕ → ℕ) → b < 2 → m < 2 ^ k → c < 2 ^ k
    → sum (2 ^ k) (λ g. f (turned b m c g)) ≡ sum (2 ^ k) f
unfolding sum
sum_turned zero b m c f hb hm hc = rw (lt-one hm, lt-one hc, and_zero_r (0 * 2 + b))
sum_turned (suc k) b m c f hb hm hc =
    let z = min b (m % 2) in
    let q = differ z (c % 2) in
    let above : ℕ → ℕ → ℕ = λ d h. turned d (m / 2) (c / 2) h * 2 in
    let at_zero : ℕ → ℕ = λ h. f (above 0 h + q) in
    let at_one : ℕ → ℕ = λ h. f (above 1 h + differ 1 q) in
    let first : (h : ℕ) → turned b m c (h * 2 + 0) ≡ above 0 h + q =
    λ h. turned_digit b m c h 0 hb (omega arith) in
    let second : (h : ℕ) → turned b m c (h * 2 + 1) ≡ above 1 h + differ 1 q =
    λ h. turned_digit b m c h 1 hb (omega arith)
    ∙ ap (λ n. above 1 h + n) (flipped z (c % 2) 0 (omega arith) (omega arith) (omega arith)) in
    let half : (d e : ℕ) → d < 2 → sum (2 ^ k) (λ h. f (above d h + e)) ≡ sum (2 ^ k) (λ h. f (h * 2 + e)) =
    λ d e hd. sum_turned k d (m / 2) (c / 2) (λ n. f (n * 2 + e)) hd (omega arith) (omega arith) in
    let either : (h : ℕ) → f (h * 2 + q) + f (h * 2 + differ 1 q) ≡ f (h * 2 + 0) + f (h * 2 + 1) =
    λ h. flip f (h * 2) q (differ_lt z (c % 2) (omega arith) (omega arith)) in
    rw (pow-suc 2 k)
    (sum_two (2 ^ k) (λ g. f (turned b m c g))
    ∙ sum_ext (2 ^ k) _ (λ h. at_zero h + at_one h) (λ h l. ap₂ (λ (x y : ℕ). f x + f y) (first h) (second h))
    ∙ sum_add (2 ^ k) at_zero at_one
    ∙ ap₂ (λ (x y : ℕ). x + y) (half 0 q (omega arith)) (half 1 (differ 1 q) (omega arith))
    ∙ sym (sum_add (2 ^ k) (λ h. f (h * 2 + q)) (λ h. f (h * 2 + differ 1 q)))
    ∙ sum_ext (2 ^ k) _ _ (λ h l. either h)
    ∙ sym (sum_two (2 ^ k) f))

-- below 2^k the mask m cuts the double to k bits
and_double : (k g m : ℕ) → m < 2 ^ k → bit_and (g * 2 + 0) m ≡ bit_and (double k g) m
unfolding shift
and_double k g m h =
    rw (add-zero (g * 2))
    (sym (mod-eq_of_lt (lt_of_le_of_lt (and_le_r (g * 2) m) h))
    ∙ and_mod (g * 2) m k
    ∙ ap (bit_and (g * 2 % 2 ^ k)) (mod-eq_of_lt h))

-- ---- steps of a secret x and of the pair (r, g)
-- two of them show the same
abbrev pub Same : {A : Type 0} → ℕ → (ℕ → ℕ → ℕ → A) → (ℕ → ℕ → ℕ → A) → Type 0
Same k f h = (x r g : ℕ) → x < 2 ^ k → r < 2 ^ k → g < 2 ^ k → f x r g ≡ h x r g

-- what is made of x and r is a word of k bits
abbrev pub Low : ℕ → (ℕ → ℕ → ℕ) → Type 0
Low k c = (x r : ℕ) → x < 2 ^ k → r < 2 ^ k → c x r < 2 ^ k

pub record Free (k : ℕ) (step : Probe) : Type 0 where
  pub bare : ℕ → ℕ → ℕ
  pub counts : (x n : ℕ) → x < 2 ^ k → pairs k (step x) n ≡ pairs k bare n

module _ (k : ℕ) where
  -- the secret does not stand in it
  pub plain : (h : ℕ → ℕ → ℕ) → Free k (λ x r g. h r g)
  plain h = record { bare = h; counts = λ x n hx. refl }

  -- at each secret, it has the counts of another
  moved : (f h : Probe) → ((x n : ℕ) → x < 2 ^ k → pairs k (f x) n ≡ pairs k (h x) n) → Free k h → Free k f
  moved f h e a = record { bare = a.bare; counts = λ x n hx. e x n hx ∙ a.counts x n hx }

  -- it has the values of another
  pub like : (f h : Probe) → Same k f h → Free k h → Free k f
  unfolding pairs
  like f h e =
      moved f h (λ x n hx.
      sum_ext (2 ^ k) _ _ (λ r hr.
      sum_ext (2 ^ k) _ _ (λ g hg. ap (λ m. hit m n) (e x r g hx hr hg))))

  -- r becomes σ x r, which undoes itself
  by_invol : (σ : ℕ → ℕ → ℕ) → Low k σ → ((x r : ℕ) → x < 2 ^ k → r < 2 ^ k → σ x (σ x r) ≡ r)
      → (f : Probe) → Free k f → Free k (λ x r g. f x (σ x r) g)
  unfolding pairs
  by_invol σ low undone f =
      moved (λ x r g. f x (σ x r) g) f (λ x n hx.
      sum_invol (2 ^ k) (σ x) (λ r. low x r hx) (λ r. undone x r hx) (λ r. sum (2 ^ k) (λ g. hit (f x r g) n)))

  -- r becomes x ⊕ r
  pub by_xor : (f : Probe) → Free k f → Free k (λ x r g. f x (bit_xor x r) g)
  by_xor = by_invol bit_xor (λ x r hx hr. xor_lt k x r hx hr) (λ x r hx hr. xor_back x r)

  -- r becomes x − r
  pub by_minus : (f : Probe) → Free k f → Free k (λ x r g. f x (minus k x r) g)
  by_minus = by_invol (minus k) (λ x r hx hr. minus_lt k x r) (λ x r hx hr. minus_minus k x r hx hr)

  -- g becomes g ⊕ (2g ∧ m) ⊕ c, with m and c of x and r
  pub by_turn : (m c : ℕ → ℕ → ℕ) → Low k m → Low k c → (f : Probe) → Free k f
      → Free k (λ x r g. f x r (bit_xor (bit_xor g (bit_and (double k g) (m x r))) (c x r)))
  unfolding pairs
  by_turn m c lm lc f =
      moved (λ x r g. f x r (bit_xor (bit_xor g (bit_and (double k g) (m x r))) (c x r))) f (λ x n hx.
      sum_ext (2 ^ k) _ _ (λ r hr. inner x r n (lm x r hx hr) (lc x r hx hr)))
    where
      inner : (x r n : ℕ) → m x r < 2 ^ k → c x r < 2 ^ k
          → sum (2 ^ k) (λ g. hit (f x r (bit_xor (bit_xor g (bit_and (double k g) (m x r))) (c x r))) n)
          ≡ sum (2 ^ k) (λ g. hit (f x r g) n)
      inner x r n hm hc =
          sum_ext (2 ^ k) _ (λ g. hit (f x r (turned 0 (m x r) (c x r) g)) n) (λ g hg.
          ap (λ t. hit (f x r (bit_xor (bit_xor g t) (c x r))) n) (sym (and_double k g (m x r) hm)))
          ∙ sum_turned k 0 (m x r) (c x r) (λ g. hit (f x r g) n) (omega arith) hm hc

  -- g becomes g ⊕ c, with c of x and r
  pub by_fresh : (c : ℕ → ℕ → ℕ) → Low k c → (f : Probe) → Free k f → Free k (λ x r g. f x r (bit_xor g (c x r)))
  by_fresh c lc f a =
      like (λ x r g. f x r (bit_xor g (c x r)))
      (λ x r g. f x r (bit_xor (bit_xor g (bit_and (double k g) 0)) (c x r)))
      (λ x r g hx hr hg. ap (λ t. f x r (bit_xor t (c x r))) (sym (none g)))
      (by_turn (λ x r. 0) c (λ x r hx hr. pow_pos k) lc f a)
    where
      none : (g : ℕ) → bit_xor g (bit_and (double k g) 0) ≡ g
      none g = ap (bit_xor g) (and_zero_r (double k g)) ∙ xor_zero_r g

-- ---- a record of steps, each entry taken alone
pub record Entries (k : ℕ) (steps : ℕ → ℕ → ℕ → List ℕ) : Type 0 where
  pub at : (i : ℕ) → Free k (λ x r g. get_or (steps x r g) i 0)

pub no_entry : (k : ℕ) → Entries k (λ x r g. [])
no_entry k = record { at = λ i. plain k (λ r g. 0) }

-- an entry, and those after it
pub ◌▹◌ : {k : ℕ} {a : Probe} {f : ℕ → ℕ → ℕ → List ℕ} → Free k a → Entries k f
    → Entries k (λ x r g. a x r g ∷ f x r g)
◌▹◌ {k} {a} {f} p q = record { at = go }
  where
    go : (i : ℕ) → Free k (λ x r g. get_or (a x r g ∷ f x r g) i 0)
    go zero = p
    go (suc i) = q.at i

infixr 40 ◌▹◌
pub entries_like : (k : ℕ) (f h : ℕ → ℕ → ℕ → List ℕ) → Same k f h → Entries k h → Entries k f
entries_like k f h e a =
    record { at = λ i. like k _ _ (λ x r g hx hr hg. ap (λ l. get_or l i 0) (e x r g hx hr hg)) (a.at i) }

-- ---- a value that some pair shows has a count, and one that no pair shows has none
sum_least : (n i : ℕ) (f : ℕ → ℕ) → i < n → f i ≤ sum n f
unfolding sum
sum_least zero i f h = absurd (not-suc-le-zero h)
sum_least (suc n) i f h = go (sum_least n i f) (ℕ_discrete i n)
  where
    go : (i < n → f i ≤ sum n f) → Dec (i ≡ n) → f i ≤ sum n f + f n
    go ih (yes e) = rw e (omega arith)
    go ih (no e) = omega (arith, ih (omega arith))

module _ (k : ℕ) (f : ℕ → ℕ → ℕ) (n : ℕ) where
  pub pairs_some : (r g : ℕ) → r < 2 ^ k → g < 2 ^ k → f r g ≡ n → 0 < pairs k f n
  unfolding pairs
  pairs_some r g hr hg e =
      omega (
        arith,
        sum_least (2 ^ k) r (λ r. sum (2 ^ k) (λ g. hit (f r g) n)) hr,
        sum_least (2 ^ k) g (λ g. hit (f r g) n) hg,
        hit_eq (f r g) n e,
      )

  pub pairs_none : ((r g : ℕ) → r < 2 ^ k → g < 2 ^ k → f r g ≡ n → ⊥) → pairs k f n ≡ 0
  unfolding pairs
  pairs_none h = sum_none _ (λ r hr. sum_none _ (λ g hg. hit_ne (f r g) n (h r g hr hg)))
    where
      sum_none : (s : ℕ → ℕ) → ((i : ℕ) → i < 2 ^ k → s i ≡ 0) → sum (2 ^ k) s ≡ 0
      sum_none s z = sum_ext (2 ^ k) s (λ i. 0) z ∙ sum_zero (2 ^ k)
