-- The rules that draw a word for each pair: refresh keeps the secret, AND opens to the and.
use Prim.Native.Nat.{ℕ, zero, suc, ◌+◌, ◌-◌, ◌≤◌, ◌<◌}
use mathlib.Core.Path.{◌≡◌, refl, sym, ap, ap₂, ◌∙◌}
use mathlib.Core.List.{List, [], ◌∷◌, ◌++◌}
use native.Mathlib.Omega.{arith}
use lib.Bits.{bit_xor, bit_and, and_zero_r}
use lib.ListN.{length, get_or, set, drop, length-set, length-append}
use Rattle.words.proofs.Bits.{bits, v, ◌⊕◌, ◌⊗◌}
use Rattle.words.proofs.Words.{xor_assoc, xor_back}
use Rattle.rules.specs.Supply.{Place, Sharing, Rule, Shares, opened}
use Rattle.rules.specs.Shares.{each, pass, along, order, column, mix, refresh_last, refresh, cross, and}
use Rattle.rules.specs.Counts.{and_draws, refresh_draws}
use Rattle.rules.proofs.Rule.{pass_rule, said, counted}
use Rattle.rules.proofs.Openings.{opened_set, opened_drop, opened_past, length_each, each_at}

-- ---- how many pairs, and where they are
pub length_along : (m i j : ℕ) → length (along m i j) ≡ m
unfolding along
length_along zero i j = refl
length_along (suc m) i j = ap suc (length_along m i (j + 1))

length_order : (m i : ℕ) → length (order m i) ≡ and_draws m
unfolding order and_draws
length_order zero i = refl
length_order (suc m) i =
    length-append (along m i (i + 1)) (order m (i + 1))
    ∙ ap₂ (λ (a b : ℕ). a + b) (length_along m i (i + 1)) (length_order m (i + 1))

length_column : (last m i : ℕ) → length (column last m i) ≡ m
unfolding column
length_column last zero i = refl
length_column last (suc m) i = ap suc (length_column last m (i + 1))

-- every pair is of places below n
abbrev Within : ℕ → List (Place × Place) → Type 0
Within n [] = Unit {0}
Within n (p ∷ ps) = (p.0 < n) × (p.1 < n) × Within n ps

within_append : (n : ℕ) (ps qs : List (Place × Place)) → Within n ps → Within n qs → Within n (ps ++ qs)
within_append n [] qs h l = l
within_append n (p ∷ ps) qs h l = (h.0, h.1, within_append n ps qs h.2 l)

within_along : (n m i j : ℕ) → i < n → j + m ≤ n → Within n (along m i j)
unfolding along
within_along n zero i j h l = tt
within_along n (suc m) i j h l = (h, omega arith, within_along n m i (j + 1) h (omega arith))

within_order : (n m i : ℕ) → i + m ≤ n → Within n (order m i)
unfolding order
within_order n zero i h = tt
within_order n (suc m) i h =
    within_append n (along m i (i + 1)) (order m (i + 1))
    (within_along n m i (i + 1) (omega arith) (omega arith))
    (within_order n m (i + 1) (omega arith))

within_column : (n m i : ℕ) → i + m ≤ n - 1 → Within n (column (n - 1) m i)
unfolding column
within_column n zero i h = tt
within_column n (suc m) i h = (omega arith, omega arith, within_column n m (i + 1) (omega arith))

-- ---- two entries changed, by s and by t
two_set : (z : List ℕ) (i j s t : ℕ) → i < length z → j < length z
    → (let y = set z i (bit_xor (get_or z i 0) s) in
    Shares (length z) (bit_xor t (bit_xor s (opened z))) (set y j (bit_xor (get_or y j 0) t)))
two_set z i j s t h l =
    let y = set z i (bit_xor (get_or z i 0) s) in (
      length-set y j (bit_xor (get_or y j 0) t) ∙ length-set z i (bit_xor (get_or z i 0) s),
      opened_set y j t (rw (length-set z i (bit_xor (get_or z i 0) s)) l) ∙ ap (bit_xor t) (opened_set z i s h),
    )

-- ---- refresh, over any pairs: what goes into one share goes into another
mix_rule : (ps : List (Place × Place)) (x : List ℕ) → Within (length x) ps
    → Rule (length ps) (Shares (length x) (opened x)) (pass mix ps x)
mix_rule ps x within =
    said
    (pass_rule mix (λ ps z. Within (length x) ps × Shares (length x) (opened x) z)
    (λ p ps s z g.
    let two = two_set z p.0 p.1 s s (omega arith) (omega arith) in
    (g.0.2, (two.0 ∙ g.1.0, two.1 ∙ xor_back s (opened z) ∙ g.1.1)))
    ps x (within, (refl, refl)))
    refl
    (λ z g. g.1)

pub refresh_rule : (n : ℕ) (x : List ℕ) → length x ≡ n → Rule (refresh_draws n) (Shares n (opened x)) (refresh x)
unfolding refresh
refresh_rule n x h =
    let m = length x in
    rw (← h) (counted (mix_rule (order m 0) x (within_order m m 0 (omega arith))) (length_order m 0))

pub refresh_last_rule : (n : ℕ) (x : List ℕ) → length x ≡ n → Rule (n - 1) (Shares n (opened x)) (refresh_last x)
unfolding refresh_last
refresh_last_rule n x h =
    let m = length x - 1 in
    let within = within_column (length x) m 0 (omega arith) in
    rw (← h) (counted (mix_rule (column m m 0) x within) (length_column m m 0))

-- ---- AND
-- the cross terms of the pairs
abbrev term : Sharing → Sharing → Place × Place → ℕ
term x y p = bit_xor (bit_and (get_or x p.0 0) (get_or y p.1 0)) (bit_and (get_or x p.1 0) (get_or y p.0 0))

crossed : Sharing → Sharing → List (Place × Place) → ℕ
crossed x y [] = 0
crossed x y (p ∷ ps) = bit_xor (term x y p) (crossed x y ps)

crossed_append : (x y : List ℕ) (ps qs : List (Place × Place))
    → crossed x y (ps ++ qs) ≡ bit_xor (crossed x y ps) (crossed x y qs)
unfolding crossed
crossed_append x y [] qs = refl
crossed_append x y (p ∷ ps) qs =
    ap (bit_xor (term x y p)) (crossed_append x y ps qs)
    ∙ sym (xor_assoc (term x y p) (crossed x y ps) (crossed x y qs))

module _ (x y : List ℕ) (same : length y ≡ length x) where
  -- of one share with all from place j on
  crossed_along : (m i j : ℕ) → j + m ≡ length x
      → crossed x y (along m i j)
      ≡ bit_xor (bit_and (get_or x i 0) (opened (drop j y))) (bit_and (opened (drop j x)) (get_or y i 0))
  unfolding along crossed
  crossed_along zero i j e = rw (
    opened_past y j (omega arith),
    opened_past x j (omega arith),
    and_zero_r
        (get_or x i 0),
  )
  crossed_along (suc m) i j e =
      let xs = opened (drop (j + 1) x) in
      let ys = opened (drop (j + 1) y) in
      rw (opened_drop y j (omega arith), opened_drop x j (omega arith), crossed_along m i (j + 1) (omega arith))
      (bits (get_or x i 0 ∷ get_or y i 0 ∷ get_or x j 0 ∷ get_or y j 0 ∷ xs ∷ ys ∷ [])
      (v 0 ⊗ v 3 ⊕ v 2 ⊗ v 1 ⊕ (v 0 ⊗ v 5 ⊕ v 4 ⊗ v 1)) (v 0 ⊗ (v 3 ⊕ v 5) ⊕ (v 2 ⊕ v 4) ⊗ v 1) tt)

  -- of all from place i on, with the diagonal: the product of what they open to
  crossed_order : (m i : ℕ) → i + m ≡ length x
      → bit_xor (crossed x y (order m i)) (opened (drop i (each bit_and x y)))
      ≡ bit_and (opened (drop i x)) (opened (drop i y))
  unfolding order crossed
  crossed_order zero i e =
      let l = length_each bit_and x y same in
      rw (opened_past x i (omega arith), opened_past (each bit_and x y) i (omega arith))
  crossed_order (suc m) i e =
      let a = get_or x i 0 in
      let b = get_or y i 0 in
      let xs = opened (drop (i + 1) x) in
      let ys = opened (drop (i + 1) y) in
      let rest = crossed x y (order m (i + 1)) in
      let d = opened (drop (i + 1) (each bit_and x y)) in
      rw (
        crossed_append x y (along m i (i + 1)) (order m (i + 1)),
        crossed_along m i (i + 1) (omega arith),
        opened_drop (each bit_and x y) i (omega (arith, length_each bit_and x y same)),
        each_at bit_and x y same i (omega arith),
        opened_drop x i (omega arith),
        opened_drop y i (omega arith),
      )
      (bits (a ∷ b ∷ xs ∷ ys ∷ rest ∷ d ∷ [])
      (v 0 ⊗ v 3 ⊕ v 2 ⊗ v 1 ⊕ v 4 ⊕ (v 0 ⊗ v 1 ⊕ v 5))
      (v 0 ⊗ v 3 ⊕ v 2 ⊗ v 1 ⊕ v 0 ⊗ v 1 ⊕ (v 4 ⊕ v 5)) tt
      ∙ ap (bit_xor (bit_xor (bit_xor (bit_and a ys) (bit_and xs b)) (bit_and a b)))
      (crossed_order m (i + 1) (omega arith))
      ∙ bits (a ∷ b ∷ xs ∷ ys ∷ []) (v 0 ⊗ v 3 ⊕ v 2 ⊗ v 1 ⊕ v 0 ⊗ v 1 ⊕ v 2 ⊗ v 3) ((v 0 ⊕ v 2) ⊗ (v 1 ⊕ v 3)) tt)

-- with the cross terms that are still to come, z opens to the and
abbrev Crossing : Sharing → Sharing → List (Place × Place) → Sharing → Type 0
Crossing x y ps z = bit_xor (crossed x y ps) (opened z) ≡ bit_and (opened x) (opened y)

pub and_rule : (n : ℕ) (x y : List ℕ) → length x ≡ n → length y ≡ n
    → Rule (and_draws n) (Shares n (bit_and (opened x) (opened y))) (and x y)
unfolding and crossed
and_rule n x y hx hy =
    let same : length y ≡ length x = hy ∙ sym hx in
    let diagonal = each bit_and x y in
    said
    (pass_rule (cross x y) (λ ps z. Within n ps × (length z ≡ n) × Crossing x y ps z)
    (λ p ps s z g.
    let a = bit_and (get_or x p.0 0) (get_or y p.1 0) in
    let b = bit_and (get_or x p.1 0) (get_or y p.0 0) in
    let two = two_set z p.0 p.1 s (bit_xor (bit_xor s a) b) (omega arith) (omega arith) in (
      g.0.2,
      two.0 ∙ g.1,
      ap (bit_xor (crossed x y ps)) two.1
          ∙ bits (s ∷ a ∷ b ∷ crossed x y ps ∷ opened z ∷ [])
          (v 3 ⊕ (v 0 ⊕ v 1 ⊕ v 2 ⊕ (v 0 ⊕ v 4))) (v 1 ⊕ v 2 ⊕ v 3 ⊕ v 4) tt
          ∙ g.2,
    ))
    (order (length x) 0) diagonal (
      within_order n (length x) 0 (omega arith),
      length_each bit_and x y same ∙ hx,
      crossed_order x y same (length x) 0 (omega arith),
    ))
    (length_order (length x) 0 ∙ ap and_draws hx)
    (λ z g. (g.1, g.2))
