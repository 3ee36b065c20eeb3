-- The rounds of masked SHA-1, from the parts that the code works out one after the other.
use Prim.Native.Nat.{ℕ, suc, ◌+◌, ◌-◌, ◌*◌, ◌/◌, ◌%◌, ◌≤◌, ◌<◌}
use mathlib.Core.Path.{◌≡◌, ap, ◌∙◌}
use mathlib.Core.List.{List}
use native.Mathlib.Nat.{add-mul}
use native.Mathlib.Omega.{arith}
use lib.ListN.{length, length-map}
use lib.Seq.{sets}
use Rattle.rules.specs.Convert.{Adder}
use Rattle.rules.specs.Standard.{K}
use Rattle.rules.specs.Sha1.{word, public, rotl, rotated, chosen, summed, temp, moved, round}
use Rattle.rules.specs.Counts.{quarter_ands, rounds_ands}
use Rattle.masked_words.specs.Words.{turned}
use Rattle.rules.proofs.Loops.{Run}
use Rattle.masked_words.proofs.Rings.{row_one, row_more, ring_moved}

-- ---- temp_at: the sum of a round, in the rule's order
module _ (ws : List ℕ) (at : ℕ) where
  pub temp_made : (k : ℕ) (add : Adder) (n q : ℕ) (w s f a t : List ℕ) (p : ℕ) (o : Run)
      → chosen q (word n 1 s) (word n 2 s) (word n 3 s) ws at ≡ (f, p) → a ≡ word n 0 s → t ≡ rotated k 5 a
      → summed add t f (word n 4 s) (public n (K q)) w ws p ≡ o → temp k add n q w s ws at ≡ o
  unfolding temp
  temp_made k add n q w s f a t p o g x h l = rw (g, ← x, ← h) l

-- ---- move_on: b rotated in its place, and t over e, where the state then begins
pub moved_made : (k n r : ℕ) (s s₁ s₂ t a b : List ℕ) → a ≡ word n 1 (turned n r s) → b ≡ rotated k 30 a
    → turned n r s₁ ≡ sets (turned n r s) (1 * n) b → turned n r s₂ ≡ sets (turned n r s₁) (4 * n) t
    → r < 5 → length s ≡ 5 * n → length t ≡ n → length a ≡ n
    → turned n ((r + 4) % 5) s₂ ≡ moved k n t (turned n r s)
unfolding moved
moved_made k n r s s₁ s₂ t a b e f g i h size lt la =
    let u = turned n r s in
    let lb : length b ≡ n = ap length f ∙ length-map a (rotl k 30) ∙ la in
    ring_moved n 1 2 r s s₁ s₂ b t g i h size lt lb ∙ rw (row_one n 0 u, row_more n 1 2 u, row_one n 3 u, f, e)

-- ---- round_at: the sum, and the state moved on
pub round_made : (k : ℕ) (add : Adder) (n q : ℕ) (w s t z ws : List ℕ) (at p : ℕ)
    → temp k add n q w s ws at ≡ (t, p) → z ≡ moved k n t s → round k add n q w s ws at ≡ (z, p)
unfolding round
round_made k add n q w s t z ws at p e g = rw (e, g)

-- ---- rounds_at: the words that the rounds from round t on draw, of m in all
left_one : (m t : ℕ) → t < m → m - t ≡ suc (m - (t + 1))
left_one m t h = omega arith

-- d to an AND and 32 ANDs to an addition
module _ (m t d : ℕ) where
  round_draws : t < m
      → rounds_ands 32 (m - t) t * d ≡ quarter_ands (t / 20) * d + 128 * d + rounds_ands 32 (m - (t + 1)) (t + 1) * d
  unfolding rounds_ands
  round_draws h =
      rw (left_one m t h)
      (add-mul (quarter_ands (t / 20) + 128) (rounds_ands 32 (m - (t + 1)) (t + 1)) d
      ∙ ap (λ x. x + rounds_ands 32 (m - (t + 1)) (t + 1) * d) (add-mul (quarter_ands (t / 20)) 128 d))

  pub round_room : (p end size : ℕ) → t < m → p + rounds_ands 32 (m - t) t * d ≡ end → end ≤ size
      → p + (quarter_ands (t / 20) * d + 128 * d) ≤ size
  round_room p end size h e l = omega (arith, round_draws h)

  pub round_after : (p q end : ℕ) → t < m → q ≡ p + (quarter_ands (t / 20) * d + 128 * d)
      → p + rounds_ands 32 (m - t) t * d ≡ end → q + rounds_ands 32 (m - (t + 1)) (t + 1) * d ≡ end
  round_after p q end h e l = omega (arith, round_draws h)

  pub rounds_after : (p end : ℕ) → m ≤ t → p + rounds_ands 32 (m - t) t * d ≡ end → p ≡ end
  unfolding rounds_ands
  rounds_after p end h e = let none : m - t ≡ 0 = omega arith in omega (arith, rw none at e)
