-- The rounds of a hash over its state, a ring of c words: each puts one word anew, a second one over the last, and
-- there the ring begins from then on, one word lower.
use Prim.Native.Nat.{ℕ, suc, ◌+◌, ◌-◌, ◌*◌, ◌%◌, ◌≤◌, ◌<◌}
use mathlib.Core.Path.{◌≡◌, sym, ap, ◌∙◌}
use mathlib.Core.List.{List, ◌++◌, append_assoc}
use native.Mathlib.Nat.{mod-add-mod, add-mod_right, add-mul, mul-le-mul_right, zero-mul, zero-mod}
use native.Mathlib.Omega.{arith}
use lib.ListN.{length, take, drop, length-append}
use lib.Seq.{sets, sets-eq, length-sets, length-take-le, take-add, drop-drop, take-append-add}
use Rattle.rules.specs.Supply.{Draw}
use Rattle.rules.specs.Sha1.{word, rounds}
use Rattle.rules.proofs.Loops.{Run}
use Rattle.masked_words.specs.Words.{firsts, turned}
use Rattle.masked_words.proofs.Turned.{turned_none, turned_turned, turned_last, length_turned}

-- ---- words in a row: m of them from word i on
abbrev pub row : ℕ → ℕ → ℕ → List ℕ → List ℕ
row n i m s = take (m * n) (drop (i * n) s)

pub row_one : (n i : ℕ) (s : List ℕ) → row n i 1 s ≡ word n i s
unfolding word
row_one n i s = let one : 1 * n ≡ n = omega arith in rw one

pub row_more : (n m i : ℕ) (s : List ℕ) → row n i (suc m) s ≡ word n i s ++ row n (i + 1) m s
unfolding word
row_more n m i s =
    let all : suc m * n ≡ n + m * n = omega arith in
    let next : (i + 1) * n ≡ i * n + n = omega arith in
    rw (all, take-add n (m * n) (drop (i * n) s), drop-drop n (i * n) s, next)

-- the first i + 1 + m words, of which word i was put anew
firsts_put : (n i m : ℕ) (s x : List ℕ) → (i + 1) * n ≤ length s → length x ≡ n
    → firsts n (i + 1 + m) (sets s (i * n) x) ≡ row n 0 i s ++ (x ++ row n (i + 1) m s)
unfolding firsts
firsts_put n i m s x room size =
    let front = take (i * n) s ++ x in
    let next : i * n + n ≡ (i + 1) * n = omega (arith, add-mul i 1 n) in
    let whole : length front ≡ (i + 1) * n =
    length-append (take (i * n) s) x ∙ omega (arith, length-take-le (i * n) s (omega arith)) in
    let all : (i + 1 + m) * n ≡ length front + m * n = omega (arith, add-mul (i + 1) m n) in
    rw (sets-eq x s (i * n) (omega arith), size, next, all, take-append-add front (drop ((i + 1) * n) s) (m * n))
    (rw (zero-mul n) (append_assoc (take (i * n) s) x (row n (i + 1) m s)))

-- ---- a round: x put over word i, and t over the last word w, of w + 1
pub ring_moved : (n i m r : ℕ) (s s₁ s₂ x t : List ℕ) → (let w = i + 1 + m in
    turned n r s₁ ≡ sets (turned n r s) (i * n) x → turned n r s₂ ≡ sets (turned n r s₁) (w * n) t
    → r < w + 1 → length s ≡ (w + 1) * n → length t ≡ n → length x ≡ n
    → (let u = turned n r s in
    turned n ((r + w) % (w + 1)) s₂ ≡ t ++ (row n 0 i u ++ (x ++ row n (i + 1) m u))))
ring_moved n i m r s s₁ s₂ x t g h below size lt lx =
    let w = i + 1 + m in
    let u = turned n r s in
    let whole : length u ≡ (w + 1) * n = length_turned n r s ∙ size in
    let size₁ : length (turned n r s₁) ≡ (w + 1) * n = ap length g ∙ length-sets u (i * n) x ∙ whole in
    let size₂ : length s₂ ≡ (w + 1) * n =
    sym (length_turned n r s₂) ∙ ap length h ∙ length-sets (turned n r s₁) (w * n) t ∙ size₁ in
    let last : (w + 1) * n ≡ w * n + n = omega (arith, add-mul w 1 n) in
    let room : (i + 1) * n ≤ length u = omega (arith, mul-le-mul_right n (le i m)) in
    sym (turned_turned n (w + 1) r w s₂ size₂ below (omega arith)) ∙ ap (turned n w) h
    ∙ turned_last n w (turned n r s₁) t (size₁ ∙ last) lt
    ∙ ap (λ (y : List ℕ). t ++ y) (ap (firsts n w) g ∙ firsts_put n i m u x room lx)
  where
    le : (i m : ℕ) → i + 1 ≤ i + 1 + m + 1
    le i m = omega arith

-- ---- the rounds from round t on, of m in all
module _ (c : ℕ) (some : 0 < c) where
  lower : (m t : ℕ) → t < m → ((m - t) % c + (c - 1)) % c ≡ (m - (t + 1)) % c
  lower m t h =
      let left = m - (t + 1) in
      let more : m - t + (c - 1) ≡ left + c = omega arith in
      mod-add-mod (m - t) c (c - 1) ∙ ap (λ x. x % c) more ∙ add-mod_right left c

  module _ (round : ℕ → List ℕ → List ℕ → Draw (List ℕ)) (n m t : ℕ) (W ws s : List ℕ) (at : ℕ) (o : Run)
      (inv : rounds round n W (m - t) t (turned n ((m - t) % c) s) ws at ≡ o) where
    pub ring_next : (w s' : List ℕ) (p : ℕ) → t < m → w ≡ word n t W
        → round t w (turned n ((m - t) % c) s) ws at ≡ (turned n (((m - t) % c + (c - 1)) % c) s', p)
        → rounds round n W (m - (t + 1)) (t + 1) (turned n ((m - (t + 1)) % c) s') ws p ≡ o
    unfolding rounds
    ring_next w s' p h e g =
        let more : m - t ≡ suc (m - (t + 1)) = omega arith in
        let x = turned n ((m - t) % c) s in
        let made : round t (word n t W) x ws at ≡ (turned n ((m - (t + 1)) % c) s', p) =
        rw (← e, ← lower m t h) g in
        sym (ap (λ (y : Run). rounds round n W (m - (t + 1)) (t + 1) y.0 ws y.1) made)
        ∙ sym (ap (λ j. rounds round n W j t x ws at) more) ∙ inv

    pub ring_end : m ≤ t → o ≡ (s, at)
    unfolding rounds
    ring_end h =
        let none : m - t ≡ 0 = omega arith in
        sym (rw (none, zero-mod c, turned_none n s) at inv)
