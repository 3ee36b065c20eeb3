-- Masked SHA-1: of any Good that the parts keep, the compression keeps it, draws so many words, and no other word has a
-- say.
use Prim.Native.Nat.{ℕ, zero, suc, ◌+◌, ◌*◌, ◌/◌, ◌≤◌, ◌<◌}
use mathlib.Core.Path.{◌≡◌, refl}
use mathlib.Core.List.{List, []}
use native.Mathlib.Nat.{suc-mul, zero-mul, add-mul, add-zero}
use native.Mathlib.Omega.{arith}
use Rattle.rules.specs.Supply.{Rule}
use Rattle.rules.specs.Convert.{Adder}
use Rattle.rules.specs.Counts.{and_draws, quarter_ands, rounds_ands, compress_ands}
use Rattle.rules.specs.Hash.{schedule as schedule_of}
use Rattle.rules.specs.Standard.{constants, K, following as following_of, round as round_of, compress as compress_of}
use Rattle.rules.specs.Sha1.{temp, moved, round, following, schedule, compress}
use Rattle.rules.proofs.Rule.{give, bind, counted}
use Rattle.rules.proofs.Goods.{Goods, none, more, one, join}
use Rattle.rules.proofs.Compressions.{small_at, Keeps, all_of, part, summed_rule, rounds_rule, ago_of, sums_rule}

-- what a compression draws
abbrev pub compression_of : ℕ → ℕ → ℕ
compression_of d n = compress_ands 0 * and_draws n + 325 * d

module _ {k n d : ℕ} {adder : Adder} {Fits : ℕ → Type 0} {Good : List ℕ → ℕ → Type 0}
    (keeps : Keeps k n d adder Fits Good) where
  -- ---- a round
  fits_K : (q : ℕ) → Fits (K q)
  fits_K q = keeps.fits (K q) (small_at constants refl q)

  abbrev cost : ℕ → ℕ
  cost t = quarter_ands (t / 20) * and_draws n + 4 * d

  round_rule : {w s S : List ℕ} {W : ℕ} (q : ℕ) → Good w W → Goods Good 5 s S
      → Rule (quarter_ands q * and_draws n + 4 * d) (λ z. Goods Good 5 z (round_of k q W S)) (round k adder n q w s)
  unfolding round temp moved round_of
  round_rule {w} {s} {S} {W} q gw g =
      let a = part keeps 0 (omega arith) g in
      let b = part keeps 1 (omega arith) g in
      let c = part keeps 2 (omega arith) g in
      let e = part keeps 3 (omega arith) g in
      let rest = more a (more (keeps.turns 30 (λ big. omega arith) b) (more c (one e))) in
      counted
      (bind (keeps.chooses q b c e) (λ u gu.
      bind (summed_rule keeps (keeps.turns 5 (λ big. omega arith) a) gu (part keeps 4 (omega arith) g)
      (keeps.shows (K q) (fits_K q)) gw) (λ t gt.
      give (λ z. Goods Good 5 z (round_of k q W S)) (moved k n t s) (more gt rest))))
      (omega arith)

  all_rounds : (m t : ℕ) → all_of cost m t ≡ rounds_ands 0 m t * and_draws n + m * (4 * d)
  unfolding all_of rounds_ands
  all_rounds zero t = omega (arith, zero-mul (and_draws n), zero-mul (4 * d))
  all_rounds (suc m) t =
      omega (
        arith,
        all_rounds m (t + 1),
        add-mul (quarter_ands (t / 20)) (rounds_ands 0 m (t + 1)) (and_draws n),
        suc-mul m (4 * d),
      )

  -- ---- the schedule
  schedule_of_lem : {m : ℕ} {w W : List ℕ} (p : ℕ) → 16 ≤ m → Goods Good m w W
      → Goods Good (m + p) (schedule k n p w) (schedule_of (following_of k) p W)
  unfolding schedule following schedule_of following_of
  schedule_of_lem {m} zero h g = rw (add-zero m) g
  schedule_of_lem {m} (suc p) h g =
      let back : (j : ℕ) → 0 < j → j ≤ 16 → Good _ _ = λ j some l. ago_of keeps j some (omega arith) g in
      let three = keeps.xors (keeps.xors (back 3 (omega arith) (omega arith)) (back 8 (omega arith) (omega arith)))
      (back 14 (omega arith) (omega arith)) in
      let x = keeps.xors three (back 16 (omega arith) (omega arith)) in
      let e : m + suc p ≡ m + 1 + p = omega arith in
      rw e (schedule_of_lem {m = m + 1} p (omega arith) (join g (one (keeps.turns 1 (λ big. omega arith) x))))

  pub compress_rule : {h H block B : List ℕ} → Goods Good 5 h H → Goods Good 16 block B
      → Rule (compression_of d n) (λ z. Goods Good 5 z (compress_of k H B)) (compress k adder n h block)
  unfolding compress compress_of compress_ands
  compress_rule {h} {H} {block} {B} gh gb =
      let gu = schedule_of_lem 64 (omega arith) gb in
      let all = rounds_rule keeps cost (λ t. round k adder n (t / 20)) (λ t. round_of k (t / 20))
      (λ t w s S W gw g. round_rule (t / 20) gw g)
      (schedule k n 64 block) (schedule_of (following_of k) 64 B) 80 0 h H (λ i l. part keeps i (omega arith) gu) gh in
      counted (bind all (λ s gs. sums_rule keeps gh gs 5 0 [] [] (omega arith) none)) (omega (arith, all_rounds 80 0))
