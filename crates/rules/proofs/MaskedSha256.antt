-- Masked SHA-256: of any Good that the parts keep, the compression keeps it, draws so many words, and no other word has
-- a say.
use Prim.Native.Nat.{ℕ, zero, suc, ◌+◌, ◌-◌, ◌*◌, ◌/◌, ◌^◌, ◌≤◌, ◌<◌}
use mathlib.Core.Path.{◌≡◌, refl, sym, ap, ◌∙◌, subst}
use mathlib.Core.List.{List, [], ◌∷◌, map}
use native.Mathlib.Nat.{suc-mul, zero-mul, add-zero}
use native.Mathlib.Omega.{arith}
use lib.Bits.{bit_xor}
use Rattle.rules.specs.Supply.{Rule}
use Rattle.rules.specs.Shares.{each}
use Rattle.rules.specs.Convert.{Adder}
use Rattle.rules.specs.Counts.{and_draws, quarter_ands}
use Rattle.rules.specs.Hash.{schedule as schedule_of}
use Rattle.rules.specs.Standard.{f}
use Rattle.rules.specs.Standard256.{ROTR, SHR, Σ, σ, K, constants}
use Rattle.rules.specs.Standard256.{following as following_of, round as round_of, compress as compress_of}
use Rattle.rules.specs.Sha1.{rotl, rotated}
use Rattle.rules.specs.Sha256.{turns, falls, following, schedule, temps, moved, renewed, round, compress}
use Rattle.rules.proofs.Rule.{give, bind, counted}
use Rattle.rules.proofs.Goods.{Goods, none, more, one, join}
use Rattle.rules.proofs.Compressions.{small_at, Keeps, all_of, part, summed_rule, rounds_rule, ago_of}
use Rattle.rules.proofs.Compressions.{sums_rule}

-- what a compression draws
abbrev pub compression_of : ℕ → ℕ → ℕ
compression_of d n = 128 * and_draws n + 600 * d

-- of each share two functions, XORed
each_maps : (a b : ℕ → ℕ) (x : List ℕ) → each bit_xor (map a x) (map b x) ≡ map (λ v. bit_xor (a v) (b v)) x
unfolding each
each_maps a b [] = refl
each_maps a b (v ∷ x) = ap (λ (l : List ℕ). bit_xor (a v) (b v) ∷ l) (each_maps a b x)

constants_fit : (t : ℕ) → K t < 2 ^ 32
unfolding K
constants_fit t = small_at constants refl t

module _ {k n d : ℕ} {adder : Adder} {Fits : ℕ → Type 0} {Good : List ℕ → ℕ → Type 0}
    (keeps : Keeps k n d adder Fits Good) where
  -- ---- Σ and σ
  module _ {x : List ℕ} {X : ℕ} (g : Good x X) where
    right : (r : ℕ) → Good (rotated k (k - r) x) (ROTR k r X)
    unfolding ROTR
    right r = keeps.turns (k - r) (λ big. omega arith) g

    turned : (p q r : ℕ) → Good (map (turns k p q r) x) (Σ k p q r X)
    unfolding turns Σ
    turned p q r =
        subst (λ y. Good y (Σ k p q r X))
        (ap (λ y. each bit_xor y (rotated k (k - r) x)) (each_maps (rotl k (k - p)) (rotl k (k - q)) x)
        ∙ each_maps (λ v. bit_xor (rotl k (k - p) v) (rotl k (k - q) v)) (rotl k (k - r)) x)
        (keeps.xors (keeps.xors (right p) (right q)) (right r))

    fallen : (p q r : ℕ) → Good (map (falls k p q r) x) (σ k p q r X)
    unfolding falls σ SHR
    fallen p q r =
        subst (λ y. Good y (σ k p q r X))
        (ap (λ y. each bit_xor y (map (λ v. v / 2 ^ r) x)) (each_maps (rotl k (k - p)) (rotl k (k - q)) x)
        ∙ each_maps (λ v. bit_xor (rotl k (k - p) v) (rotl k (k - q) v)) (λ v. v / 2 ^ r) x)
        (keeps.xors (keeps.xors (right p) (right q)) (keeps.falls r g))

  -- ---- the schedule
  following_rule : {m : ℕ} {w W : List ℕ} → 16 ≤ m → Goods Good m w W
      → Rule (3 * d) (λ z. Good z (following_of k W)) (following k adder n w)
  unfolding following following_of
  following_rule {m} h g =
      let back : (j : ℕ) → 0 < j → j ≤ 16 → Good _ _ = λ j some l. ago_of keeps j some (omega arith) g in
      counted
      (bind (keeps.adds (fallen (back 2 (omega arith) (omega arith)) 17 19 10) (back 7 (omega arith) (omega arith)))
      (λ x gx. bind (keeps.adds gx (fallen (back 15 (omega arith) (omega arith)) 7 18 3)) (λ y gy.
      keeps.adds gy (back 16 (omega arith) (omega arith)))))
      (omega arith)

  schedule_rule : {m : ℕ} {w W : List ℕ} (p : ℕ) → 16 ≤ m → Goods Good m w W
      → Rule (p * (3 * d)) (λ z. Goods Good (m + p) z (schedule_of (following_of k) p W)) (schedule k adder n p w)
  unfolding schedule schedule_of
  schedule_rule {m} {w} {W} zero h g =
      counted (give (λ z. Goods Good (m + 0) z W) w (rw (add-zero m) g)) (sym (zero-mul (3 * d)))
  schedule_rule {m} (suc p) h g =
      let e : m + suc p ≡ m + 1 + p = omega arith in
      rw e
      (counted (bind (following_rule h g) (λ x gx. schedule_rule {m = m + 1} p (omega arith) (join g (one gx))))
      (omega (arith, suc-mul p (3 * d))))

  -- ---- a round
  abbrev cost : ℕ → ℕ
  cost t = 2 * and_draws n + 7 * d

  round_rule : (t : ℕ) (w s S : List ℕ) (W : ℕ) → Good w W → Goods Good 8 s S
      → Rule (2 * and_draws n + 7 * d) (λ z. Goods Good 8 z (round_of k t W S)) (round k adder n t w s)
  unfolding round temps moved renewed round_of f quarter_ands
  round_rule t w s S W gw g =
      let a = part keeps 0 (omega arith) g in
      let b = part keeps 1 (omega arith) g in
      let c = part keeps 2 (omega arith) g in
      let e = part keeps 4 (omega arith) g in
      let h = part keeps 5 (omega arith) g in
      let i = part keeps 6 (omega arith) g in
      counted
      (bind (keeps.chooses 0 e h i) (λ y gy.
      bind (keeps.chooses 2 a b c) (λ z gz.
      bind (summed_rule keeps (part keeps 7 (omega arith) g) (turned e 6 11 25) gy
      (keeps.shows (K t) (keeps.fits _ (constants_fit t))) gw) (λ p gp.
      bind (keeps.adds (turned a 2 13 22) gz) (λ q gq.
      bind (keeps.adds (part keeps 3 (omega arith) g) gp) (λ u gu.
      bind (keeps.adds gp gq) (λ v gv.
      give (λ z. Goods Good 8 z (round_of k t W S)) (moved n v u s)
      (more gv (more a (more b (more c (more gu (more e (more h (one i)))))))))))))))
      (omega arith)

  all_rounds : (m t : ℕ) → all_of cost m t ≡ m * (2 * and_draws n + 7 * d)
  unfolding all_of
  all_rounds zero t = sym (zero-mul (2 * and_draws n + 7 * d))
  all_rounds (suc m) t = omega (arith, all_rounds m (t + 1), suc-mul m (2 * and_draws n + 7 * d))

  pub compress_rule : {h H block B : List ℕ} → Goods Good 8 h H → Goods Good 16 block B
      → Rule (compression_of d n) (λ z. Goods Good 8 z (compress_of k H B)) (compress k adder n h block)
  unfolding compress compress_of
  compress_rule {h} {H} {block} {B} gh gb =
      counted
      (bind (schedule_rule 48 (omega arith) gb) (λ u gu.
      bind (rounds_rule keeps cost (round k adder n) (round_of k) round_rule u (schedule_of (following_of k) 48 B)
      64 0 h H
      (λ i l. part keeps i (omega arith) gu) gh) (λ s gs.
      sums_rule keeps gh gs 8 0 [] [] (omega arith) none)))
      (omega (arith, all_rounds 64 0))
