-- The schedule of masked SHA-256, from the parts that the code works out one after the other.
use Prim.Native.Nat.{ℕ, suc, ◌+◌, ◌-◌, ◌*◌, ◌≤◌, ◌<◌}
use mathlib.Core.Path.{◌≡◌, sym, ap, ◌∙◌}
use mathlib.Core.List.{List, ◌++◌, append_assoc}
use native.Mathlib.Nat.{add-mul, mul-le-mul_right}
use native.Mathlib.Omega.{arith}
use lib.ListN.{length, take, drop, take-append-drop}
use lib.Seq.{sets, length-take-le, take-add, take_at, drop_at, sets-eq}
use Rattle.rules.specs.Convert.{Adder}
use Rattle.rules.specs.Sha1.{word, ago}
use Rattle.rules.specs.Sha256.{σ0, σ1, following, schedule}
use Rattle.rules.proofs.Loops.{Run}
use Rattle.masked_words.specs.Words.{firsts}
use Rattle.sums.specs.Three.{three}
use Rattle.masked_words.proofs.Parts.{word_room, word_front, ago_is, firsts_all}

-- ---- following_at: words of the first t, from their end
module _ (n t : ℕ) (u : List ℕ) (size : length u ≡ 64 * n) (low : 16 ≤ t) (below : t < 64) where
  back : (j : ℕ) → 0 < j → j ≤ 16 → ago n j (firsts n t u) ≡ word n (t - j) u
  unfolding firsts
  back j some few =
      let front = take (t * n) u in
      let long : length front ≡ t * n =
      length-take-le (t * n) u (omega (arith, mul-le-mul_right n below, add-mul t 1 n)) in
      let parts : t * n ≡ (t - j + j) * n = ap (λ i. i * n) (omega arith) in
      let room : (t - j) * n + n ≤ length front = omega (arith, add-mul (t - j) j n, mul-le-mul_right n some) in
      ago_is n (t - j) j front (long ∙ parts) ∙ sym (word_front n (t - j) front (drop (t * n) u) room)
      ∙ ap (word n (t - j)) (take-append-drop (t * n) u)

  pub following_made : (k : ℕ) (add : Adder) (ws : List ℕ) (at : ℕ) (a b c d : List ℕ) (o : Run)
      → a ≡ word n (t - 2) u → b ≡ word n (t - 7) u → c ≡ word n (t - 15) u → d ≡ word n (t - 16) u
      → three add (σ1 k a) b (σ0 k c) d ws at ≡ o → following k add n (firsts n t u) ws at ≡ o
  unfolding following three
  following_made k add ws at a b c d o ea eb ec ed f =
      rw (
        back 2 (omega arith) (omega arith),
        back 7 (omega arith) (omega arith),
        back 15 (omega arith) (omega arith),
        back 16 (omega arith) (omega arith),
        ← ea,
        ← eb,
        ← ec,
        ← ed,
      )
      f

-- ---- extend_at: the word stored behind the first t
module _ (n t : ℕ) (u u' z : List ℕ) (size : length u ≡ 64 * n) (below : t < 64) (one : length z ≡ n)
    (is : u' ≡ sets u (t * n) z) where
  room : t * n + n ≤ length u
  room = word_room n t 64 u below size

  front : length (take (t * n) u) ≡ t * n
  front = length-take-le (t * n) u (omega (arith, room))

  stored : u' ≡ take (t * n) u ++ (z ++ drop (t * n + n) u)
  stored = is ∙ sets-eq z u (t * n) (omega (arith, room)) ∙ rw one (append_assoc (take (t * n) u) z _)

  pub extended_word : z ≡ word n t u'
  unfolding word
  extended_word = rw (stored, drop_at (take (t * n) u) _ (t * n) front) (sym (take_at z _ n one))

  pub extended_front : firsts n t u' ≡ firsts n t u
  unfolding firsts
  extended_front = rw stored (take_at (take (t * n) u) _ (t * n) front)

  pub extended : (k : ℕ) (add : Adder) (ws : List ℕ) (at p : ℕ) → following k add n (firsts n t u) ws at ≡ (z, p)
      → following k add n (firsts n t u) ws at ≡ (word n t u', p)
  extended k add ws at p e = e ∙ ap (λ (y : List ℕ). (y, p)) extended_word

-- ---- schedule_at: the words from word t on, of m in all
module _ (k : ℕ) (add : Adder) (n m t : ℕ) (ws u : List ℕ) (at : ℕ) (o : Run)
    (inv : schedule k add n (m - t) (firsts n t u) ws at ≡ o) where
  pub schedule_next : (u' : List ℕ) (p : ℕ) → t < m → following k add n (firsts n t u) ws at ≡ (word n t u', p)
      → firsts n t u' ≡ firsts n t u → schedule k add n (m - (t + 1)) (firsts n (t + 1) u') ws p ≡ o
  unfolding schedule firsts word
  schedule_next u' p h e f =
      let more : m - t ≡ suc (m - (t + 1)) = omega arith in
      let place : (t + 1) * n ≡ t * n + n = omega arith in
      rw (place, take-add (t * n) n u', f)
      (sym (ap (λ (r : Run). schedule k add n (m - (t + 1)) (take (t * n) u ++ r.0) ws r.1) e) ∙ rw more at inv)

  pub schedule_end : m ≤ t → t ≤ m → length u ≡ m * n → o ≡ (u, at)
  unfolding schedule
  schedule_end h l size =
      let none : m - t ≡ 0 = omega arith in
      let all : t ≡ m = omega arith in
      sym (rw (none, all, firsts_all n m u size) at inv)
