-- Sums of words in shares, from the parts that the code works out one after the other.
use Prim.Native.Nat.{ℕ, suc, ◌+◌, ◌-◌, ◌*◌, ◌≤◌, ◌<◌}
use mathlib.Core.Path.{◌≡◌, sym, ap, ◌∙◌}
use mathlib.Core.List.{List, ◌++◌}
use native.Mathlib.Omega.{arith}
use lib.ListN.{length, take, drop, length-drop}
use lib.Seq.{length-take-le, take_at, drop_at, take-add, drop-drop}
use Rattle.rules.specs.Shares.{add}
use Rattle.rules.specs.Convert.{Adder}
use Rattle.rules.specs.Sha1.{word, summed, sums}
use Rattle.rules.proofs.Loops.{Run, times_suc}
use Rattle.sums.specs.Three.{three}
use Rattle.masked_words.specs.Words.{firsts}
use Rattle.masked_words.proofs.Parts.{firsts_all}

-- ---- three_in, sum_in: in the rule's order
module _ (add : Adder) (ws : List ℕ) (at p : ℕ) (o : Run) where
  pub three_made : (t a b c x y : List ℕ) (q : ℕ) → add t a ws at ≡ (x, p) → add x b ws p ≡ (y, q) → add y c ws q ≡ o
      → three add t a b c ws at ≡ o
  unfolding three
  three_made t a b c x y q e f g = rw (e, f, g)

  pub summed_made : (t f e c w z : List ℕ) → three add t f e c ws at ≡ (z, p) → add z w ws p ≡ o
      → summed add t f e c w ws at ≡ o
  unfolding summed three
  summed_made t f e c w z g h = rw (g, h)

-- ---- sum_at: one word of several made anew, x, and the others as they were
module _ (n i : ℕ) (z x : List ℕ) (room : i * n + n ≤ length z)
    (same : length x ≡ length (take (i * n + n - i * n) (drop (i * n) z))) where
  abbrev stored : List ℕ
  stored = take (i * n) z ++ (x ++ drop (i * n + n - i * n) (drop (i * n) z))

  part : i * n + n - i * n ≡ n
  part = omega arith

  size : length x ≡ n
  size = rw part at same ∙ length-take-le n (drop (i * n) z) (omega (arith, length-drop (i * n) z))

  front : length (take (i * n) z) ≡ i * n
  front = length-take-le (i * n) z (omega arith)

  stored_word : word n i stored ≡ x
  unfolding word
  stored_word = rw (drop_at (take (i * n) z) _ (i * n) front) (take_at x _ n size)

  pub stored_sum : (k : ℕ) (s ws y : List ℕ) (at p : ℕ) → y ≡ word n i s
      → add k (take (i * n + n - i * n) (drop (i * n) z)) y ws at ≡ (x, p)
      → add k (word n i z) (word n i s) ws at ≡ (word n i stored, p)
  unfolding word
  stored_sum k s ws y at p e g = rw (stored_word, ← e) (rw part at g)

  pub stored_front : firsts n i stored ≡ firsts n i z
  unfolding firsts
  stored_front = take_at (take (i * n) z) _ (i * n) front

  pub stored_rest : drop ((i + 1) * n) stored ≡ drop ((i + 1) * n) z
  stored_rest =
      let place : (i + 1) * n ≡ i * n + n = omega arith in
      rw (place, part)
      (sym (drop-drop n (i * n) (take (i * n) z ++ (x ++ drop n (drop (i * n) z))))
      ∙ ap (drop n) (drop_at (take (i * n) z) _ (i * n) front) ∙ drop_at x _ n size ∙ drop-drop n (i * n) z)

-- ---- sums_at: the sums from word i on, of m in all; the words of the chain that are left are the old ones
module _ (add : Adder) (n m : ℕ) (h s ws : List ℕ) (i at : ℕ) (z : List ℕ) (o : Run)
    (inv : sums add n h s (m - i) i (firsts n i z) ws at ≡ o) where
  pub sums_next : (p : ℕ) (z' : List ℕ) → drop (i * n) z ≡ drop (i * n) h → i < m
      → add (word n i z) (word n i s) ws at ≡ (word n i z', p) → firsts n i z' ≡ firsts n i z
      → sums add n h s (m - (i + 1)) (i + 1) (firsts n (i + 1) z') ws p ≡ o
  unfolding sums firsts word
  sums_next p z' rest l e f =
      let left : m - i ≡ suc (m - (i + 1)) = omega arith in
      let place : (i + 1) * n ≡ i * n + n = omega arith in
      let old : add (word n i h) (word n i s) ws at ≡ (word n i z', p) = rw (ap (take n) rest) at e in
      rw (place, take-add (i * n) n z', f)
      (sym (ap (λ (r : Run). sums add n h s (m - (i + 1)) (i + 1) (firsts n i z ++ r.0) ws r.1) old)
      ∙ rw left at inv)

  pub rest_next : (z' : List ℕ) → drop (i * n) z ≡ drop (i * n) h → drop ((i + 1) * n) z' ≡ drop ((i + 1) * n) z
      → drop ((i + 1) * n) z' ≡ drop ((i + 1) * n) h
  rest_next z' rest e =
      let place : (i + 1) * n ≡ i * n + n = omega arith in
      e ∙ rw place (sym (drop-drop n (i * n) z) ∙ ap (drop n) rest ∙ drop-drop n (i * n) h)

  pub sums_end : i ≤ m → m ≤ i → length z ≡ m * n → o ≡ (z, at)
  unfolding sums
  sums_end a b size =
      let none : m - i ≡ 0 = omega arith in
      let all : i ≡ m = omega arith in
      sym (rw (none, all, firsts_all n m z size) at inv)

-- the words that they draw, d to a sum
module _ (m i d p end : ℕ) where
  pub sum_after : (q : ℕ) → p + (m - i) * d ≡ end → i < m → q ≡ p + d → q + (m - (i + 1)) * d ≡ end
  sum_after q e h l = omega (arith, times_suc (m - i) (m - (i + 1)) d (omega arith))

  pub sums_after : p + (m - i) * d ≡ end → m ≤ i → p ≡ end
  sums_after e h = let none : m - i ≡ 0 = omega arith in omega (arith, rw none at e)
