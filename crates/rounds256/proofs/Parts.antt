-- The rounds of masked SHA-256, from the parts that the code works out one after the other.
use Prim.Native.Nat.{ℕ, ◌+◌, ◌*◌, ◌%◌, ◌<◌}
use mathlib.Core.Path.{◌≡◌, ap, ◌∙◌}
use mathlib.Core.List.{List, ◌++◌, append_assoc}
use lib.ListN.{length}
use lib.Seq.{sets}
use Rattle.rules.specs.Convert.{Adder}
use Rattle.rules.specs.Standard256.{K}
use Rattle.rules.specs.Sha1.{word, public, chosen, summed}
use Rattle.rules.specs.Sha256.{Σ0, Σ1, temps, moved, renewed, round}
use Rattle.masked_words.specs.Words.{turned}
use Rattle.masked_words.proofs.Rings.{row_one, row_more, ring_moved}
use Rattle.rounds256.specs.Ends.{ends}

module _ (k : ℕ) (adder : Adder) (ws : List ℕ) (at : ℕ) where
  -- ---- temps_at
  pub temps_made : (n t : ℕ) (w s f g x y : List ℕ) (p q r end : ℕ)
      → chosen 0 (word n 4 s) (word n 5 s) (word n 6 s) ws at ≡ (f, p)
      → chosen 2 (word n 0 s) (word n 1 s) (word n 2 s) ws p ≡ (g, q)
      → summed adder (word n 7 s) (Σ1 k (word n 4 s)) f (public n (K t)) w ws q ≡ (x, r)
      → adder (Σ0 k (word n 0 s)) g ws r ≡ (y, end) → temps k adder n t w s ws at ≡ ((x, y), end)
  unfolding temps
  temps_made n t w s f g x y p q r end a b c d = rw (a, b, c, d)

  -- ---- round_at
  pub round_made : (n t : ℕ) (w s x y u v z : List ℕ) (p q : ℕ) → temps k adder n t w s ws at ≡ ((x, y), p)
      → ends adder (word n 3 s) x y ws p ≡ ((u, v), q) → z ≡ moved n u v s → round k adder n t w s ws at ≡ (z, q)
  unfolding round renewed ends
  round_made n t w s x y u v z p q e f g =
      rw (e, g) (ap (λ (o : (List ℕ × List ℕ) × ℕ). (moved n o.0.0 o.0.1 s, o.1)) f)

-- ---- ends_at
pub ends_made : (adder : Adder) (ws : List ℕ) (at : ℕ) (d x y b c u t v : List ℕ) (p q : ℕ) → b ≡ d → c ≡ b
    → adder c x ws at ≡ (u, p) → adder x y ws p ≡ (t, q) → v ≡ u → ends adder d x y ws at ≡ ((t, v), q)
unfolding ends
ends_made adder ws at d x y b c u t v p q e i f g h = rw (← e, ← i, f, g, h)

-- ---- move_on: u over d, and t over h, where the state then begins
pub moved_made : (n r : ℕ) (s s₁ s₂ t u : List ℕ)
    → turned n r s₁ ≡ sets (turned n r s) (3 * n) u → turned n r s₂ ≡ sets (turned n r s₁) (7 * n) t
    → r < 8 → length s ≡ 8 * n → length t ≡ n → length u ≡ n
    → turned n ((r + 7) % 8) s₂ ≡ moved n t u (turned n r s)
unfolding moved
moved_made n r s s₁ s₂ t u g h below size lt lu =
    let x = turned n r s in
    let a = word n 0 x in
    let b = word n 1 x in
    let c = word n 2 x in
    let rest = u ++ (word n 4 x ++ (word n 5 x ++ word n 6 x)) in
    ring_moved n 3 3 r s s₁ s₂ u t g h below size lt lu
    ∙ rw (row_more n 2 0 x, row_more n 1 1 x, row_one n 2 x, row_more n 2 4 x, row_more n 1 5 x, row_one n 6 x)
    (ap (λ (y : List ℕ). t ++ y) (append_assoc a (b ++ c) rest ∙ ap (λ (y : List ℕ). a ++ y) (append_assoc b c rest)))
