-- The conversions, from the parts that the code works out one after the other.
use Prim.Native.Nat.{ℕ, ◌+◌, ◌-◌, ◌*◌, ◌/◌, ◌≤◌, ◌<◌}
use mathlib.Core.Path.{◌≡◌, sym, ap, ◌∙◌}
use mathlib.Core.Bool.{Bool, true, false}
use mathlib.Core.List.{List, ◌++◌}
use native.Mathlib.Nat.{sub-zero, zero-add}
use native.Mathlib.Omega.{arith}
use lib.ListN.{length, take, drop, set, replicate, length-drop, length-replicate}
use lib.Seq.{sets, length-sets, sets-eq, take_all, length-take-le}
use Rattle.width.specs.Width.{bits}
use Rattle.words.proofs.Stores.{set_last, zeros_after}
use Rattle.rules.specs.Supply.{next, opened}
use Rattle.rules.specs.Numbers.{largest}
use Rattle.rules.specs.Shares.{refresh_last, expand}
use Rattle.rules.specs.Convert.{Adder, Refresh, power_of_two, widen, halved, to_bool, to_arith}
use Rattle.rules.specs.Counts.{add_draws, widen_draws, to_bool_draws}
use Rattle.rules.proofs.Conversion.{negatives, power_even, to_bool_one, to_bool_more, draws_one, draws_more}
use Rattle.rules.proofs.Rule.{next_rule}
use Rattle.rules.proofs.Loops.{Run}
use Rattle.convert.specs.Steps.{Half, Halves, widened, widened_draws, less}

-- ---- a share count above one has its halves
pub halved_count : (n : ℕ) → n ≤ largest → 1 < n → Halves n
halved_count n room more =
    record {
      more = more;
      room = room;
      left = half (n / 2) (omega arith) (omega arith) (omega arith) (λ e. omega (arith, e));
      right = half (n - n / 2) (omega arith) (omega arith) (omega arith) (λ e. omega (arith, e));
      draws = draws_more (add_draws bits) n more;
    }
  where
    half : (m : ℕ) → 0 < m → m < n → m ≤ n - n / 2 → (n ≡ n / 2 * 2 → m * 2 ≡ n) → Half n m
    half m some part few even =
        record { some = some; part = part; few = few; even = λ e. even (power_even n e more); room = room }

-- ---- a half of m shares brought to n
module _ (n m at : ℕ) (b : Bool) (is : b ≡ power_of_two n) where
  pub expand_place : (p half : ℕ) → b ≡ true → half ≡ m → p ≡ at + half → p ≡ at + widen_draws n m
  expand_place p half e k h = h ∙ rw (sym is ∙ e, k)

  pub refresh_place : (came y half : List ℕ) (i p : ℕ) → b ≡ false → length came ≡ n → y ≡ sets came i half
      → p ≡ at + (length y - 1) → p ≡ at + widen_draws n m
  refresh_place came y half i p e l put h = h ∙ rw (sym is ∙ e, put, length-sets came i half, l)

filled_zeros : (n : ℕ) (half : List ℕ) → length half ≤ n
    → sets (replicate n 0) 0 half ≡ half ++ replicate (n - length half) 0
filled_zeros n half h =
    let room = length-replicate {A = ℕ} n 0 in
    let rest : drop {A = ℕ} (0 + length half) (replicate n 0) ≡ replicate (n - length half) 0 =
    rw (zero-add (length half)) (rw sub-zero at (zeros_after n (length half) h)) in
    sets-eq half (replicate n 0) 0 (omega arith) ∙ ap (λ (r : List ℕ). half ++ r) rest

module _ (n : ℕ) (half x ws : List ℕ) (at p : ℕ) (b : Bool) (is : b ≡ power_of_two n) where
  pub widen_expanded : b ≡ true → expand half ws at ≡ (x, p) → widen n half ws at ≡ (x, p)
  unfolding widen
  widen_expanded e f = rw (sym is ∙ e) f

  pub widen_filled : (m : ℕ) (came y : List ℕ) → b ≡ false → Half n m → length half ≡ m → came ≡ replicate n 0
      → y ≡ sets came 0 half
      → refresh_last y ws at ≡ (x, p) → widen n half ws at ≡ (x, p)
  unfolding widen
  widen_filled m came y e parts l zeros put f =
      let part = parts.part in
      rw (sym is ∙ e, ← put ∙ ap (λ c. sets c 0 half) zeros ∙ filled_zeros n half (omega arith)) f

-- ---- arithmetic to Boolean
pub widened_place : (n m at p q : ℕ) → p ≡ at + to_bool_draws (add_draws bits) m → q ≡ p + widen_draws n m
    → q ≡ at + widened_draws n m
widened_place n m at p q drew h = omega arith

module _ (adder : Adder) (ws : List ℕ) (at : ℕ) where
  pub widened_made : (n : ℕ) (half b x : List ℕ) (p q : ℕ) → to_bool adder half ws at ≡ (b, p) → widen n b ws p ≡ (x, q)
      → widened adder n half ws at ≡ (x, q)
  unfolding widened
  widened_made n half b x p q e f = rw (e, f)

  -- one share stays
  pub one_made : (a x : List ℕ) (n : ℕ) → x ≡ a → length a ≡ n → n ≤ 1 → to_bool adder a ws at ≡ (x, at)
  one_made a x n e l h = rw e (to_bool_one adder a ws at (omega arith))

  -- more go by halves; a part of a slice is `take (e - h) (drop h a)`
  pub to_bool_made : (a x y z : List ℕ) (n p q e : ℕ) → 1 < n → length a ≡ n
      → widened adder n (take (n / 2 - 0) a) ws at ≡ (x, p)
      → widened adder n (take (n - n / 2) (drop (n / 2) a)) ws p ≡ (y, q)
      → adder x y ws q ≡ (z, e) → to_bool adder a ws at ≡ (z, e)
  unfolding widened halved
  to_bool_made a x y z n p q e h l f g k =
      let m = n / 2 in
      let left : widened adder n (take m a) ws at ≡ (x, p) = rw (sub-zero m) at f in
      let all : take (n - m) (drop m a) ≡ drop m a = take_all (n - m) (drop m a) (omega (arith, length-drop m a)) in
      let right : widened adder n (drop m a) ws p ≡ (y, q) = rw all at g in
      to_bool_more adder a ws at (omega arith) ∙ rw (l, left, right) k

pub one_place : (n at : ℕ) → n ≤ 1 → at ≡ at + to_bool_draws (add_draws bits) n
one_place n at h = omega (arith, draws_one (add_draws bits) n h)

-- ---- Boolean to arithmetic
module _ (k : ℕ) (adder : Adder) (fresh : Refresh) (ws : List ℕ) (at p q : ℕ) where
  pub less_made : (A x b s y : List ℕ) (e : ℕ) → to_bool adder (negatives k A) ws at ≡ (b, p)
      → adder x b ws p ≡ (s, q) → fresh s ws q ≡ (y, e) → less k adder fresh A x ws at ≡ (y, e)
  unfolding less
  less_made A x b s y e f g h = rw (f, g, h)

  -- from what was drawn into the front of a, which the last share then follows
  pub to_arith_made : (x a A y : List ℕ) (word : ℕ)
      → (let last = length x - 1 in
      0 < length x → length a ≡ length x → next (length (take (last - 0) a)) ws at ≡ (A, p)
      → less k adder fresh A x ws p ≡ (y, q) → word ≡ opened y
      → to_arith k adder fresh x ws at ≡ (set (A ++ drop (last - 0) a) last word, q))
  unfolding to_arith less
  to_arith_made x a A y word h l e f g =
      let last = length x - 1 in
      let drew : next last ws at ≡ (A, p) = rw (sub-zero last, length-take-le last a (omega arith)) at e in
      let front : length A ≡ last = sym (ap (λ (r : Run). length r.0) drew) ∙ (next_rule last).makes ws at in
      rw (sub-zero last, drew, f, g, set_last A a (opened y) last front (omega arith))
