-- The rules as the code's loops walk them: what is left, run from here, gives what the whole gives. One law to a
-- turn and one to the end.
use Prim.Native.Nat.{ℕ, zero, suc, ◌+◌, ◌-◌, ◌*◌, ◌≤◌, ◌<◌}
use mathlib.Core.Path.{◌≡◌, refl, sym, ap, ◌∙◌}
use mathlib.Core.List.{List, [], ◌∷◌, ◌++◌, map, append_assoc, append-nil}
use native.Mathlib.Nat.{suc-mul, add-zero, sub-zero, mul-le-mul_right}
use native.Mathlib.Numerals.{add-one}
use native.Mathlib.Omega.{arith}
use lib.Bits.{bit_xor, bit_and}
use lib.ListN.{length, get_or, set, take, drop, replicate, length-map, length-set, drop_of_length-le}
use lib.Seq.{drop-cons, take_all, length-take-le, take-suc, append_snoc, get_or_at, set_at}
use Rattle.words.proofs.Stores.{take_sets, filled_next, filled_end, set_last}
use Rattle.words.specs.Word.{minus}
use Rattle.rules.specs.Supply.{next, opened, split}
use Rattle.rules.specs.Shares.{Step, each, pass, along, order, column, cross, and, double_xor, carries, add, expand}
use Rattle.rules.specs.Hash.{Hash, chain_words}
use Rattle.rules.specs.Hmac.{used}
use Rattle.rules.specs.Counts.{and_draws, add_draws}
use Rattle.rules.proofs.Openings.{length_each, each_at}
use Rattle.rules.proofs.Bytes.{map_at}
use Rattle.rules.proofs.Rule.{next_rule}
use Rattle.rules.proofs.Conversion.{negatives, length_negatives}

-- what a rule that draws makes, and the place after
abbrev pub Run : Type 0
Run = List ℕ × ℕ

pass_append : (step : Step) (ps qs : List (ℕ × ℕ)) (z ws : List ℕ) (at : ℕ)
    → pass step (ps ++ qs) z ws at ≡ (let r = pass step ps z ws at in pass step qs r.0 ws r.1)
unfolding pass
pass_append step [] qs z ws at = refl
pass_append step (p ∷ ps) qs z ws at = pass_append step ps qs (step p.0 p.1 (get_or ws at 0) z) ws (at + 1)

-- ---- one draw for each pair: s is the word drawn, q the place after it, y what the step makes of z
module _ (step : Step) (ws z y : List ℕ) (at q s : ℕ) (e : Run) where
  pub column_next : (last i : ℕ) → i < last → s ≡ get_or ws at 0 → q ≡ at + 1 → y ≡ step i last s z
      → pass step (column last (last - i) i) z ws at ≡ e
      → pass step (column last (last - (i + 1)) (i + 1)) y ws q ≡ e
  unfolding pass column
  column_next last i h f g j p =
      let more : last - i ≡ suc (last - (i + 1)) = omega arith in
      rw (j, f, g) (rw more at p)

  pub along_next : (n i j : ℕ) → j < n → s ≡ get_or ws at 0 → q ≡ at + 1 → y ≡ step i j s z
      → pass step (along (n - j) i j) z ws at ≡ e → pass step (along (n - (j + 1)) i (j + 1)) y ws q ≡ e
  unfolding pass along
  along_next n i j h f g k p =
      let more : n - j ≡ suc (n - (j + 1)) = omega arith in
      rw (k, f, g) (rw more at p)

-- from pair (i, j), or from row i on: what is left of the walk over n shares, run on z with the words from p on,
-- comes to what the whole row made of z₀, or the whole walk, with those from `at` on
abbrev pub RowFrom : Step → ℕ → ℕ → List ℕ → List ℕ → ℕ → List ℕ → ℕ → ℕ → Type 0
RowFrom step n i z₀ ws at z p j =
    let row = n - (i + 1) in
    (p + (n - j) ≡ at + row) × (pass step (along (n - j) i j) z ws p ≡ pass step (along row i (i + 1)) z₀ ws at)

abbrev pub OrderFrom : Step → ℕ → Run → List ℕ → ℕ → List ℕ → ℕ → ℕ → Type 0
OrderFrom step n whole ws at z p i =
    (p + and_draws (n - i) ≡ at + and_draws n) × (pass step (order (n - i) i) z ws p ≡ whole)

-- all pairs of n shares in order, from the diagonal on
pub order_begins : (n : ℕ) (x y z ws : List ℕ) (at : ℕ) → length x ≡ n → z ≡ each bit_and x y
    → pass (cross x y) (order (n - 0) 0) z ws at ≡ and x y ws at
unfolding and
order_begins n x y z ws at h e = rw (sub-zero n, h, e)

-- a row of the order, then the rest
pub order_next : (step : Step) (ws z y : List ℕ) (at p n i : ℕ) (e : Run) → i < n
    → pass step (along (n - (i + 1)) i (i + 1)) z ws at ≡ (y, p) → pass step (order (n - i) i) z ws at ≡ e
    → pass step (order (n - (i + 1)) (i + 1)) y ws p ≡ e
unfolding order
order_next step ws z y at p n i e h row inv =
    let more : n - i ≡ suc (n - (i + 1)) = omega arith in
    let m = n - (i + 1) in
    sym (ap (λ (r : Run). pass step (order m (i + 1)) r.0 ws r.1) row)
    ∙ sym (pass_append step (along m i (i + 1)) (order m (i + 1)) z ws at)
    ∙ rw more at inv

module _ (step : Step) (ws z : List ℕ) (at : ℕ) (e : Run) where
  pub column_end : (last i : ℕ) → last ≤ i → pass step (column last (last - i) i) z ws at ≡ e → e ≡ (z, at)
  unfolding pass column
  column_end last i h p = let none : last - i ≡ 0 = omega arith in sym (rw none at p)

  pub along_end : (n i j : ℕ) → n ≤ j → pass step (along (n - j) i j) z ws at ≡ e → e ≡ (z, at)
  unfolding pass along
  along_end n i j h p = let none : n - j ≡ 0 = omega arith in sym (rw none at p)

  pub order_end : (n i : ℕ) → n ≤ i → pass step (order (n - i) i) z ws at ≡ e → e ≡ (z, at)
  unfolding pass order
  order_end n i h p = let none : n - i ≡ 0 = omega arith in sym (rw none at p)

-- ---- the words of the rows that are left: n shares have n − 1 pairs more than n − 1 shares
module _ (n i p all : ℕ) where
  rows_next : i < n → and_draws (n - i) ≡ n - (i + 1) + and_draws (n - (i + 1))
  unfolding and_draws
  rows_next h = let more : n - i ≡ suc (n - (i + 1)) = omega arith in rw more

  pub rows_room : (l : ℕ) → i < n → p + and_draws (n - i) ≡ all → all ≤ l → p + (n - (i + 1)) ≤ l
  rows_room l h e f = omega (arith, rows_next h)

  pub rows_place : (q : ℕ) → i < n → q ≡ p + (n - (i + 1)) → p + and_draws (n - i) ≡ all
      → q + and_draws (n - (i + 1)) ≡ all
  rows_place q h e f = omega (arith, rows_next h)

  pub rows_end : n ≤ i → p + and_draws (n - i) ≡ all → p ≡ all
  unfolding and_draws
  rows_end h e = let none : n - i ≡ 0 = omega arith in omega (arith, rw none at e)

-- ---- m parts of d words, of which i are drawn
module _ (m i d at p : ℕ) where
  pub parts_room : (l : ℕ) → i < m → p ≡ at + i * d → at + m * d ≤ l → p + d ≤ l
  parts_room l h e f = omega (arith, mul-le-mul_right d h)

  pub parts_end : m ≤ i → i ≤ m → p ≡ at + i * d → p ≡ at + m * d
  parts_end h l e = let all : i ≡ m = omega arith in rw all at e

-- one of m parts of d words, and the rest
pub times_suc : (m n d : ℕ) → m ≡ suc n → m * d ≡ d + n * d
times_suc m n d e = rw (e, suc-mul n d) (omega arith)

-- ---- as many words for as many shares
module _ (n m at : ℕ) (same : n ≡ m) where
  pub and_room : (l : ℕ) → at + and_draws m ≤ l → at + and_draws n ≤ l
  and_room l h = rw same h

  pub and_place : (p : ℕ) → p ≡ at + and_draws n → p ≡ at + and_draws m
  and_place p h = rw (← same) h

  pub add_room : (k l : ℕ) → at + add_draws k m ≤ l → at + add_draws k n ≤ l
  add_room k l h = rw same h

  pub add_place : (k p : ℕ) → p ≡ at + add_draws k n → p ≡ at + add_draws k m
  add_place k p h = rw (← same) h

-- ---- expand: what stands in y so far, and what is left
module _ (x ws y : List ℕ) (i at : ℕ) (e : Run) where
  pub expand_next : (q s : ℕ) → i < length x → length y ≡ length x * 2 → s ≡ get_or ws at 0 → q ≡ at + 1
      → (let rest = expand (drop i x) ws at in (take (i * 2) y ++ rest.0, rest.1) ≡ e)
      → (let rest = expand (drop (i + 1) x) ws q in
      (take ((i + 1) * 2) (set (set y (i * 2) (bit_xor (get_or x i 0) s)) (i * 2 + 1) s) ++ rest.0, rest.1) ≡ e)
  unfolding expand
  expand_next q s h l f g p =
      let pair = bit_xor (get_or x i 0) s ∷ s ∷ [] in
      let two : (i + 1) * 2 ≡ i * 2 + 2 = omega arith in
      let rest = expand (drop (suc i) x) ws (at + 1) in
      let stored = take_sets y pair (i * 2) (omega arith) in
      rw (g, two, add-one i, add-one (i * 2), stored, append_assoc (take (i * 2) y) pair rest.0, f)
      (rw (drop-cons x i 0 h) at p)

  pub expand_end : length x ≤ i → length y ≡ length x * 2
      → (let rest = expand (drop i x) ws at in (take (i * 2) y ++ rest.0, rest.1) ≡ e) → e ≡ (y, at)
  unfolding expand
  expand_end h l p =
      sym (rw (drop_of_length-le x {i = i} h, append-nil (take (i * 2) y), take_all (i * 2) y (omega arith)) at p)

-- ---- the rounds of the addition
module _ (k : ℕ) (a w u ws : List ℕ) (at : ℕ) where
  pub carries_next : (m i : ℕ) (v : List ℕ) (p : ℕ) (e : Run) → i < m → carries k a w 1 u ws at ≡ (v, p)
      → carries k a w (m - i) u ws at ≡ e → carries k a w (m - (i + 1)) v ws p ≡ e
  unfolding carries
  carries_next m i v p e h one inv =
      let more : m - i ≡ suc (m - (i + 1)) = omega arith in
      sym (ap (λ (r : Run). carries k a w (m - (i + 1)) r.0 ws r.1) one) ∙ rw more at inv

  pub carries_end : (m i : ℕ) (e : Run) → m ≤ i → carries k a w (m - i) u ws at ≡ e → e ≡ (u, at)
  unfolding carries
  carries_end m i e h p = let none : m - i ≡ 0 = omega arith in sym (rw none at p)

  pub carries_one : (t v : List ℕ) (p : ℕ) → and u a ws at ≡ (t, p) → v ≡ each (double_xor k) t w
      → carries k a w 1 u ws at ≡ (v, p)
  unfolding carries
  carries_one t v p e f = ap (λ (r : Run). (each (double_xor k) r.0 w, r.1)) e ∙ ap (λ l. (l, p)) (sym f)

-- AND, XOR, the carry loop from zeros and XOR, one after the other
pub add_made : (k n : ℕ) (ws x y w a u₀ u z : List ℕ) (at p q : ℕ) → length x ≡ n
    → and x y ws at ≡ (w, p) → a ≡ each bit_xor x y → u₀ ≡ replicate n 0 → carries k a w (k - 1) u₀ ws p ≡ (u, q)
    → z ≡ each bit_xor a u → add k x y ws at ≡ (z, q)
unfolding add
add_made k n ws x y w a u₀ u z at p q l e f g h i = rw (e, ← f, l, ← g, h, i)

-- ---- by shares, n of them: up to place i, z has the rule's shares
module _ (f : ℕ → ℕ → ℕ) (n : ℕ) (x y z : List ℕ) (i : ℕ)
    (left : length x ≡ n) (right : length y ≡ n) (room : length z ≡ n) where
  rule_size : length z ≡ length (each f x y)
  rule_size = room ∙ sym left ∙ sym (length_each f x y (right ∙ sym left))

  pub each_next : i < n → take i z ≡ take i (each f x y)
      → take (i + 1) (set z i (f (get_or x i 0) (get_or y i 0))) ≡ take (i + 1) (each f x y)
  each_next h p =
      filled_next z (each f x y) i _ (omega arith) rule_size
      (sym (each_at f x y (right ∙ sym left) i (omega arith))) p

  pub each_end : n ≤ i → take i z ≡ take i (each f x y) → z ≡ each f x y
  each_end h p = filled_end z (each f x y) i (omega (arith, rule_size)) rule_size p

-- the same of three lists
module _ (f : ℕ → ℕ → ℕ) (x y u z : List ℕ) (i n : ℕ)
    (left : length x ≡ n) (right : length y ≡ n) (third : length u ≡ n) (room : length z ≡ n) where
  size_two : length (each f x y) ≡ n
  size_two = length_each f x y (right ∙ sym left) ∙ left

  pub each_three_next : i < n → take i z ≡ take i (each f (each f x y) u)
      → take (i + 1) (set z i (f (f (get_or x i 0) (get_or y i 0)) (get_or u i 0)))
      ≡ take (i + 1) (each f (each f x y) u)
  each_three_next h p =
      rw (← each_at f x y (right ∙ sym left) i (omega arith)) (each_next f n (each f x y) u z i size_two third room h p)

  pub each_three_end : n ≤ i → take i z ≡ take i (each f (each f x y) u) → z ≡ each f (each f x y) u
  each_three_end h p = each_end f n (each f x y) u z i size_two third room h p

-- y becomes f of x and itself: z is done up to place i, and j is the place after
module _ (f : ℕ → ℕ → ℕ) (x y z : List ℕ) (i : ℕ) (size : length y ≡ length x)
    (so_far : z ≡ take i (each f x y) ++ drop i y) where
  pub into_next : (j a : ℕ) → j ≡ i + 1 → i < length x → a ≡ f (get_or x i 0) (get_or z i 0)
      → set z i a ≡ take j (each f x y) ++ drop j y
  into_next j a p h e =
      let all = each f x y in
      let front = length-take-le i all (omega (arith, length_each f x y size)) in
      let rest = drop (suc i) y in
      let whole : z ≡ take i all ++ get_or y i 0 ∷ rest =
      so_far ∙ ap (λ (l : List ℕ). take i all ++ l) (drop-cons y i 0 (omega arith)) in
      let here : get_or z i 0 ≡ get_or y i 0 =
      ap (λ (l : List ℕ). get_or l i 0) whole ∙ get_or_at (take i all) (get_or y i 0) rest 0 i front in
      let made : a ≡ get_or all i 0 = e ∙ ap (f (get_or x i 0)) here ∙ sym (each_at f x y size i h) in
      ap (λ (l : List ℕ). set l i a) whole
      ∙ set_at (take i all) (get_or y i 0) rest a i front
      ∙ rw (p, add-one i, take-suc all i 0 (omega (arith, length_each f x y size)), made)
      (sym (append_snoc (take i all) (get_or all i 0) rest))

  pub into_end : length x ≤ i → z ≡ each f x y
  into_end h =
      let all = each f x y in
      so_far
      ∙ rw (take_all i all (omega (arith, length_each f x y size)), drop_of_length-le y {i = i} (omega arith))
      (append-nil all)

-- ---- f of each entry up to place i, and at the end of all; j is the place after
module _ (f : ℕ → ℕ) (x z : List ℕ) (i : ℕ) (same : length z ≡ length x) where
  pub mapped_next : (j a : ℕ) → j ≡ i + 1 → i < length x → a ≡ f (get_or x i 0) → take i z ≡ take i (map f x)
      → take j (set z i a) ≡ take j (map f x)
  mapped_next j a n h e p =
      rw n (filled_next z (map f x) i a (omega arith) (same ∙ sym (length-map x f)) (e ∙ sym (map_at f x i h)) p)

  pub mapped_end : length x ≤ i → take i z ≡ take i (map f x) → z ≡ map f x
  mapped_end h p = filled_end z (map f x) i (omega (arith, length-map x f)) (same ∙ sym (length-map x f)) p

-- ---- the next words, filled from the front
next_at : (ws : List ℕ) (n at i : ℕ) → i < n → get_or (next n ws at).0 i 0 ≡ get_or ws (at + i) 0
unfolding next
next_at ws zero at i h = absurd (omega arith)
next_at ws (suc n) at zero h = ap (λ m. get_or ws m 0) (sym (add-zero at))
next_at ws (suc n) at (suc i) h =
    let q : at + 1 + i ≡ at + suc i = omega arith in
    next_at ws n (at + 1) i (omega arith) ∙ ap (λ m. get_or ws m 0) q

module _ (ws z : List ℕ) (n at i p : ℕ) (room : length z ≡ n) (place : p ≡ at + i) where
  size : length z ≡ length (next n ws at).0
  size = room ∙ sym ((next_rule n).makes ws at)

  pub next_next : (s : ℕ) → i < length z → s ≡ get_or ws p 0 → take i z ≡ take i (next n ws at).0
      → take (i + 1) (set z i s) ≡ take (i + 1) (next n ws at).0
  next_next s h e f =
      filled_next z (next n ws at).0 i s h size (e ∙ rw place (sym (next_at ws n at i (omega arith)))) f

  pub next_end : i ≤ n → length z ≤ i → take i z ≡ take i (next n ws at).0 → next n ws at ≡ (z, p)
  next_end l h f =
      let all : (next n ws at).1 ≡ p = (next_rule n).place ws at ∙ omega arith in
      rw (filled_end z (next n ws at).0 i (omega (arith, size)) size f, ← all)

-- ---- the negatives of a list, and a zero
negatives_at : (k : ℕ) (a : List ℕ) (i : ℕ) → i < length a → get_or (negatives k a) i 0 ≡ minus k 0 (get_or a i 0)
negatives_at k [] i h = absurd (omega arith)
negatives_at k (x ∷ a) zero h = refl
negatives_at k (x ∷ a) (suc i) h = negatives_at k a i (omega arith)

negatives_last : (k : ℕ) (a : List ℕ) → get_or (negatives k a) (length a) 0 ≡ 0
negatives_last k [] = refl
negatives_last k (x ∷ a) = negatives_last k a

module _ (k : ℕ) (a m : List ℕ) (i : ℕ) (room : length m ≡ length a + 1) where
  same_size : length m ≡ length (negatives k a)
  same_size = room ∙ sym (length_negatives k a)

  pub negatives_next : (s : ℕ) → i < length a → s ≡ minus k 0 (get_or a i 0) → take i m ≡ take i (negatives k a)
      → take (i + 1) (set m i s) ≡ take (i + 1) (negatives k a)
  negatives_next s h e p =
      filled_next m (negatives k a) i s (omega arith) same_size (e ∙ sym (negatives_at k a i h)) p

  pub negatives_end : i ≤ length a → length a ≤ i → take i m ≡ take i (negatives k a) → set m i 0 ≡ negatives k a
  negatives_end l h p =
      let all : length a ≡ i = omega arith in
      let zero : 0 ≡ get_or (negatives k a) i 0 = sym (rw all at (negatives_last k a)) in
      filled_end (set m i 0) (negatives k a) (i + 1) (omega (arith, same_size)) (length-set m i 0 ∙ same_size)
      (filled_next m (negatives k a) i 0 (omega arith) same_size zero p)

-- ---- splitting, from the masks that were drawn into the front of the shares s
pub split_made : (value at p mask : ℕ) (s ws m : List ℕ)
    → (let last = length s - 1 in
    0 < length s → next (length (take (last - 0) s)) ws at ≡ (m, p) → mask ≡ opened m
    → split (length s) value ws at ≡ (set (m ++ drop (last - 0) s) last (bit_xor value mask), p))
unfolding split
split_made value at p mask s ws m h e f =
    let last = length s - 1 in
    let drawn : next last ws at ≡ (m, p) = rw (sub-zero last, length-take-le last s (omega arith)) at e in
    let front : length m ≡ last = sym (ap (λ (r : Run). length r.0) drawn) ∙ (next_rule last).makes ws at in
    rw (sub-zero last, drawn, f, set_last m s (bit_xor value (opened m)) last front (omega arith))

-- of a chain's record the words in use
pub length_used : (H : Hash) (n : ℕ) (chain : List ℕ) → chain_words H * n ≤ length chain
    → length (used H n chain) ≡ chain_words H * n
unfolding used
length_used H n chain room = length-take-le (chain_words H * n) chain room
