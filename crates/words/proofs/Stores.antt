-- Lists that a loop fills from a place on, store by store.
use mathlib.Core.Path.{◌≡◌, sym, ap, ap₂, ◌∙◌}
use mathlib.Core.List.{List, [], ◌∷◌, ◌++◌}
use Prim.Native.Nat.{ℕ, suc, ◌+◌, ◌-◌, ◌≤◌, ◌<◌}
use native.Mathlib.Nat.{sub-zero}
use native.Mathlib.Numerals.{add-one}
use native.Mathlib.Omega.{arith}
use lib.ListN.{length, get_or, take, drop, set, replicate}
use lib.ListN.{length-append, length-replicate, replicate-append-replicate, drop_of_length-le}
use lib.Seq.{sets, sets-eq, set_at, drop-cons, take_at, drop_at, take_all, take-suc, take-suc-set, length-take-le}

-- after the stores, the list begins with what it had in front and what was stored
pub take_sets : (l s : List ℕ) (i : ℕ) → i + length s ≤ length l → take (i + length s) (sets l i s) ≡ take i l ++ s
take_sets l s i h =
    let front : length (take i l ++ s) ≡ i + length s =
    length-append (take i l) s ∙ ap (λ n. n + length s) (length-take-le i l (omega arith)) in
    ap (take (i + length s)) (sets-eq s l i h)
    ∙ take_at (take i l ++ s) (drop (i + length s) l) (i + length s) front

-- ---- a list z that becomes l, entry by entry from the front
pub filled_next : (z l : List ℕ) (i a : ℕ) → i < length z → length z ≡ length l
    → a ≡ get_or l i 0
    → take i z ≡ take i l
    → take (i + 1) (set z i a) ≡ take (i + 1) l
filled_next z l i a h e f p =
    let g : i < length l = omega arith in
    rw (add-one i, take-suc-set z i a h, take-suc l i 0 g)
    (ap₂ (λ (s : List ℕ) (b : ℕ). s ++ (b ∷ [])) p f)

pub filled_end : (z l : List ℕ) (i : ℕ) → length l ≤ i → length z ≡ length l → take i z ≡ take i l → z ≡ l
filled_end z l i h e p = sym (take_all i z (omega arith)) ∙ p ∙ take_all i l h

-- ---- a front m was put into s, all but its last entry; then v is stored there
pub set_last : (m s : List ℕ) (v last : ℕ) → length m ≡ last → length s ≡ suc last
    → set (m ++ drop last s) last v ≡ m ++ (v ∷ [])
set_last m s v last e f =
    let one : drop (suc last) s ≡ [] = drop_of_length-le s {i = suc last} (omega arith) in
    rw (drop-cons s last 0 (omega arith), one, set_at m (get_or s last 0) [] v last e)

-- ---- the first n of m zeros, lent, and those after them
module _ (m n : ℕ) (room : n ≤ m) where
  parts : replicate {A = ℕ} m 0 ≡ replicate n 0 ++ replicate (m - n) 0
  parts =
      let whole : m ≡ n + (m - n) = omega arith in
      ap (λ k. replicate k 0) whole ∙ sym (replicate-append-replicate n (m - n) 0)

  pub lent_zeros : take {A = ℕ} (n - 0) (replicate m 0) ≡ replicate n 0
  lent_zeros =
      rw (sub-zero n)
      (ap (take n) parts ∙ take_at (replicate n 0) (replicate (m - n) 0) n (length-replicate n 0))

  pub zeros_after : drop {A = ℕ} (n - 0) (replicate m 0) ≡ replicate (m - n) 0
  zeros_after =
      rw (sub-zero n)
      (ap (drop n) parts ∙ drop_at (replicate n 0) (replicate (m - n) 0) n (length-replicate n 0))
