-- The short conversion, from the parts that the code works out one after the other.
use Prim.Native.Nat.{ℕ, suc, ◌+◌, ◌-◌, ◌*◌, ◌%◌, ◌≤◌, ◌<◌}
use mathlib.Core.Path.{◌≡◌, refl, sym, ap, ◌∙◌}
use mathlib.Core.List.{List, [], ◌∷◌, ◌++◌, map}
use native.Mathlib.Nat.{sub-zero}
use native.Mathlib.Numerals.{add-one}
use native.Mathlib.Omega.{arith}
use lib.Bits.{bit_xor}
use lib.ListN.{length, get_or, set, take, drop, length-append, length-drop, length-map, drop_of_length-le}
use lib.Seq.{take_all, length-take-le, take-append-le, take-take, take_at, drop_at, drop-cons, get_or_at, get_or-take}
use borrow.Author.Tests.{eq-eqb, ne_eqb}
use Rattle.words.specs.Word.{plus}
use Rattle.rules.specs.Goubin.{psi}
use Rattle.rules.specs.Shares.{each, refresh_last}
use Rattle.rules.specs.Short.{psis, joined, summed, shorter, short_of, to_arith_short}
use Rattle.rules.specs.Supply.{Draw}
use Rattle.rules.specs.Counts.{short_draws}
use Rattle.rules.proofs.Loops.{Run}
use Rattle.rules.proofs.Openings.{length_each}
use Rattle.rules.proofs.Pairs.{refresh_last_rule}
use Rattle.rules.proofs.Short.{length_psis, length_joined, short_rule, short_of_more, short_none, short_more}
use Rattle.short.specs.Steps.{Many, ready, lists, two_lists}

-- ---- b: its entries, and share 1 in the first of an even number
module _ (k n share : ℕ) (a b : List ℕ) (size : length a ≡ n + 1) (first : share ≡ get_or a 0 0)
    (entries : b ≡ map (psi k share) (take (n + 1 - 1) (drop 1 a))) where
  all : b ≡ map (psi k (get_or a 0 0)) (drop 1 a)
  all = entries ∙ rw (first, take_all (n + 1 - 1) (drop 1 a) (omega (arith, length-drop 1 a)))

  long : length b ≡ n
  long = ap length all ∙ length-map (drop 1 a) (psi k (get_or a 0 0)) ∙ length-drop 1 a ∙ omega arith

  pub psis_even : n % 2 ≡ 0 → set b 0 (bit_xor (get_or b 0 0) share) ≡ psis k a
  unfolding psis
  psis_even h = rw (← all, ← first, long, eq-eqb (n % 2) 0 h)

  pub psis_odd : (n % 2 ≡ 0 → ⊥) → b ≡ psis k a
  unfolding psis
  psis_odd h = rw (← all, long, ne_eqb (n % 2) 0 h)

-- ---- a list refreshed and joined
pub ready_made : (l r ws : List ℕ) (at p : ℕ) → length r ≡ length l → refresh_last l ws at ≡ (r, p)
    → (let last = length l - 1 in
    ready l ws at ≡ (take last (set r (last - 1) (bit_xor (get_or r (last - 1) 0) (get_or r last 0))), p))
unfolding ready joined
ready_made l r ws at p same e = rw (e, same)

-- ---- both lists: the later shares lie behind the first of a, and b was worked out from a
module _ (k at p q : ℕ) (a b₀ b later c rest ws : List ℕ)
    (kept : length b ≡ length b₀) (size : length a ≡ length b₀ + 1) where
  abbrev lent : List ℕ
  lent = take (length b + 1 - 1) (drop 1 a)

  part : lent ≡ drop 1 a
  part = take_all (length b + 1 - 1) (drop 1 a) (omega (arith, length-drop 1 a))

  lent_all : length lent ≡ length b₀
  lent_all = ap length part ∙ length-drop 1 a ∙ omega arith

  pub lists_made : b ≡ psis k a → length later ≡ length lent → ready lent ws at ≡ (take (length lent - 1) later, p)
      → ready b ws p ≡ (take (length b - 1) c, q)
      → lists k a ws at ≡ ((take (length b₀ - 1) (drop 1 (take 1 a ++ (later ++ rest))), take (length b₀ - 1) c), q)
  unfolding lists
  lists_made e l f g =
      let m = length b₀ - 1 in
      let first : ready (drop 1 a) ws at ≡ (take m later, p) =
      rw (← part) (f ∙ ap (λ n. (take (n - 1) later, p)) lent_all) in
      let second : ready (psis k a) ws p ≡ (take m c, q) = rw (← e) (g ∙ ap (λ n. (take (n - 1) c, q)) kept) in
      let behind : drop 1 (take 1 a ++ (later ++ rest)) ≡ later ++ rest =
      drop_at (take 1 a) (later ++ rest) 1 (length-take-le 1 a (omega arith)) in
      rw (first, second, behind, take-append-le m later rest (omega (arith, lent_all)))

  pub lists_place : p ≡ at + (length lent - 1) → q ≡ p + (length b - 1) → q ≡ at + 2 * (length b₀ - 1)
  lists_place f g = omega (arith, lent_all)

-- ---- the sum of both lists: s is that of all places but the last, in front of what z holds besides
set_two : (s : List ℕ) (a b u v : ℕ) → set (set (s ++ a ∷ b ∷ []) (suc (length s)) v) (length s) u ≡ s ++ u ∷ v ∷ []
set_two [] a b u v = refl
set_two (x ∷ s) a b u v = ap (λ (l : List ℕ). x ∷ l) (set_two s a b u v)

pub sum_made : (k : ℕ) (first z s : List ℕ) → 0 < length first → length z ≡ length first + 1
    → (let last = length first - 1 in
    let y = s ++ drop (last - 0) z in
    s ≡ each (plus k) (take (last - 0) first) (take (last - 0) z)
    → set (set y (last + 1) (get_or y last 0)) last (get_or first last 0) ≡ summed k first (take (length first) z))
unfolding summed
sum_made k first z s some size e =
    let last = length first - 1 in
    let a = get_or z last 0 in
    let b = get_or z (suc last) 0 in
    let front : s ≡ each (plus k) (take last first) (take last z) = rw (sub-zero last) at e in
    let lf = length-take-le last first (omega arith) in
    let lz = length-take-le last z (omega arith) in
    let long : length s ≡ last =
    ap length front ∙ length_each (plus k) (take last first) (take last z) (lz ∙ sym lf) ∙ lf in
    let none : drop (suc (suc last)) z ≡ [] = drop_of_length-le z {i = suc (suc last)} (omega arith) in
    let two : drop last z ≡ a ∷ b ∷ [] =
    drop-cons z last 0 (omega arith) ∙ ap (λ (l : List ℕ). a ∷ l) (drop-cons z (suc last) 0 (omega arith) ∙ rw none) in
    rw (
      sub-zero last,
      add-one last,
      two,
      get_or_at s a (b ∷ []) 0 last long,
      take-take last (length first) z (omega arith),
      get_or-take (length first) z last 0 (omega arith),
      ← front,
      ← long,
    )
    (set_two s (get_or z (length s) 0) (get_or z (suc (length s)) 0) (get_or first (length s) 0)
    (get_or z (length s) 0))

-- ---- both lists of the shares x
pub two_place : (at p q l : ℕ) → p ≡ at + l → 1 < l → q ≡ p + 2 * (l - 1) → q ≡ at + (3 * l - 2)
two_place at p q l place more e = omega arith

pub two_made : (k at p : ℕ) (x a ws : List ℕ) (r : (List ℕ × List ℕ) × ℕ) → refresh_last (x ++ (0 ∷ [])) ws at ≡ (a, p)
    → lists k a ws p ≡ r → two_lists k x ws at ≡ r
unfolding two_lists
two_made k at p x a ws r e f = rw (e, f)

-- ---- a step, from its parts
module _ (k : ℕ) (ws : List ℕ) where
  two_sizes : (n : ℕ) (x : List ℕ) (at : ℕ) → length x ≡ n
      → (let l = (two_lists k x ws at).0 in (length l.0 ≡ n - 1) × (length l.1 ≡ n - 1))
  unfolding two_lists lists ready
  two_sizes n x at h =
      let x₀ = x ++ (0 ∷ []) in
      let a = refresh_last x₀ ws at in
      let la = ((refresh_last_rule (n + 1) x₀ (length-append x (0 ∷ []) ∙ omega arith)).makes ws at).0 in
      let c = refresh_last (drop 1 a.0) ws a.1 in
      let lc = ((refresh_last_rule n (drop 1 a.0) (length-drop 1 a.0 ∙ omega arith)).makes ws a.1).0 in
      let b = refresh_last (psis k a.0) ws c.1 in
      let lb = ((refresh_last_rule n (psis k a.0) (length_psis k a.0 ∙ omega arith)).makes ws c.1).0 in
      (length_joined c.0 ∙ omega arith, length_joined b.0 ∙ omega arith)

  steps : (convert : List ℕ → Draw (List ℕ)) (x : List ℕ) (at : ℕ)
      → shorter k convert x ws at ≡ (let l = two_lists k x ws at in
      let p = convert l.0.0 ws l.1 in
      let q = convert l.0.1 ws p.1 in
      (summed k p.0 q.0, q.1))
  unfolding shorter two_lists lists ready
  steps convert x at = refl

  -- the lists lie in parts of slices, a and b; the second, converted, is the front of z
  pub step_made : (n at p q r : ℕ) (x a b first second rest z : List ℕ) → 1 < n → length x ≡ n
      → two_lists k x ws at ≡ ((take (length x - 1) (drop 1 a), take (length x - 1) b), p)
      → short_of k (n - 1) (take (n - 1) (drop 1 a)) ws p ≡ (first, q)
      → short_of k (n - 1) (take (n - 1 - 0) b) ws q ≡ (second, r)
      → z ≡ summed k first (take (length first) (second ++ rest))
      → short_of k n x ws at ≡ (z, r)
  step_made n at p q r x a b first second rest z more size e f g h =
      let both : two_lists k x ws at ≡ ((take (n - 1) (drop 1 a), take (n - 1) b), p) = rw size at e in
      let sizes = rw both at (two_sizes n x at size) in
      let g' : short_of k (n - 1) (take (n - 1) b) ws q ≡ (second, r) = rw (sub-zero (n - 1)) at g in
      let lf : length first ≡ n - 1 =
      sym (ap (λ (t : Run). length t.0) f) ∙ (short_rule k (n - 1) (take (n - 1) (drop 1 a)) sizes.0).makes ws p in
      let ls : length second ≡ n - 1 =
      sym (ap (λ (t : Run). length t.0) g') ∙ (short_rule k (n - 1) (take (n - 1) b) sizes.1).makes ws q in
      let front : take (length first) (second ++ rest) ≡ second = take_at second rest (length first) (omega arith) in
      short_of_more k n x ws at more ∙ steps (short_of k (n - 1)) x at ∙ rw (both, f, g', h, front)

-- ---- one share, and more
pub one_place : (n at : ℕ) → n ≤ 1 → at ≡ at + short_draws n
one_place n at h = omega (arith, short_none n h)

pub many : (n : ℕ) → n ≤ 8 → 1 < n → Many n
many n room more = record { more = more; room = room; draws = short_more n more }

-- ---- all shares, from a copy
pub copied_made : (k at p : ℕ) (x a z ws : List ℕ) → a ≡ x → short_of k (length x) a ws at ≡ (z, p)
    → to_arith_short k x ws at ≡ (z, p)
unfolding to_arith_short
copied_made k at p x a z ws e f = rw e at f
