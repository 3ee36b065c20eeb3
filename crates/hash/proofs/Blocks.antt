-- Blocks in shares, compressed one after the other: j of them done.
use Prim.Native.Nat.{ℕ, suc, ◌+◌, ◌-◌, ◌*◌, ◌≤◌, ◌<◌}
use mathlib.Core.Path.{◌≡◌, sym, ap, ◌∙◌}
use mathlib.Core.List.{List}
use native.Mathlib.Nat.{add-mul}
use native.Mathlib.Omega.{arith}
use lib.ListN.{take, drop}
use lib.Seq.{drop-drop}
use Rattle.rules.specs.declared.Algorithm.{Algorithm}
use Rattle.rules.specs.Hmac.{blocks}
use Rattle.rules.proofs.Loops.{Run, parts_room, parts_end}
use Rattle.hash.specs.Hash.{hash}

-- those that are left, from here on
abbrev pub Left : Algorithm → ℕ → List ℕ → List ℕ → ℕ → ℕ → List ℕ → ℕ → Run
Left code n ws W count j g p = blocks (hash code) n (count - j) (drop (j * (16 * n)) W) g ws p

module _ (code : Algorithm) (n : ℕ) (ws W : List ℕ) (count : ℕ) (e : Run) where
  pub blocks_next : (j p q : ℕ) (b g g1 : List ℕ) → j < count → (hash code).compress n g b ws p ≡ (g1, q)
      → b ≡ take (16 * n) (drop (j * (16 * n)) W) → Left code n ws W count j g p ≡ e → Left code n ws W count (j + 1)
      g1 q ≡ e
  unfolding blocks
  blocks_next j p q b g g1 l f made inv =
      let m : count - j ≡ suc (count - (j + 1)) = omega arith in
      let after : j * (16 * n) + 16 * n ≡ (j + 1) * (16 * n) = omega (arith, add-mul j 1 (16 * n)) in
      let left = drop (16 * n) (drop (j * (16 * n)) W) in
      let rest : left ≡ drop ((j + 1) * (16 * n)) W = drop-drop (16 * n) (j * (16 * n)) W ∙ ap (λ t. drop t W) after in
      rw (← rest)
      (sym (ap (λ (r : Run). blocks (hash code) n (count - (j + 1)) left r.0 ws r.1) (rw made at f))
      ∙ (rw m at inv))

  pub blocks_end : (j p : ℕ) (g : List ℕ) → count ≤ j → Left code n ws W count j g p ≡ e → e ≡ (g, p)
  unfolding blocks
  blocks_end j p g l inv = let m : count - j ≡ 0 = omega arith in sym (rw m at inv)

-- block j of so many, of d words each
module _ (j d at p count m : ℕ) (same : count ≡ m) where
  pub block_room : (have : ℕ) → j < count → p ≡ at + j * d → at + m * d ≤ have → p + d ≤ have
  block_room have h e l = parts_room m j d at p have (omega arith) e l

  pub block_place : count ≤ j → j ≤ count → p ≡ at + j * d → p ≡ at + m * d
  block_place h l e = parts_end m j d at p (omega arith) (omega arith) e
