-- A key's words in shares: the last shares that are kept, and words and blocks from them.
use Prim.Native.Nat.{ℕ, zero, suc, ◌+◌, ◌-◌, ◌*◌, ◌≤◌, ◌<◌}
use mathlib.Core.Path.{◌≡◌, refl, sym, ap, ap₂, ◌∙◌}
use mathlib.Core.List.{List, [], ◌∷◌, ◌++◌}
use native.Mathlib.Numerals.{add-one}
use native.Mathlib.Omega.{arith}
use native.Mathlib.Nat.{zero-add, add-zero, add-mul, suc-add, suc-mul, zero-mul, mul_comm, mul_assoc, mul-le-mul_right}
use native.Mathlib.Nat.{sub-zero}
use lib.Bits.{bit_xor}
use lib.ListN.{length, get_or, set, take, drop, replicate, length-append, length-drop}
use lib.Seq.{drop-cons, take_at, take-take, take-add, drop-drop, take-append-le, drop-append-le}
use lib.Seq.{drop-append-add}
use lib.Seq.{take-nil}
use Rattle.words.proofs.Stores.{filled_next, filled_end, set_last, lent_zeros, zeros_after}
use Rattle.rules.specs.Supply.{next, opened, split}
use Rattle.rules.specs.Hash.{Hash, number_of, filled}
use Rattle.rules.specs.Standard.{SHA1}
use Rattle.rules.specs.Sha1.{word}
use Rattle.rules.specs.Hmac.{splits, key_words}
use Rattle.rules.proofs.Rule.{next_rule}
use Rattle.rules.proofs.Bytes.{length_words}
use Rattle.key_words.specs.Held.{last_shares, held}
use Rattle.key_words.proofs.Words.{word_is}

abbrev H : Hash
H = SHA1 32

-- ---- the last shares, one after the other
module _ (n : ℕ) (ws : List ℕ) where
  pub length_lasts : (vs : List ℕ) (at : ℕ) → length (last_shares n vs ws at) ≡ length vs
  unfolding last_shares
  length_lasts [] at = refl
  length_lasts (v ∷ vs) at = ap suc (length_lasts vs (at + (n - 1)))

  lasts_at : (vs : List ℕ) (at i : ℕ) → i < length vs
      → get_or (last_shares n vs ws at) i 0 ≡ bit_xor (get_or vs i 0) (opened (next (n - 1) ws (at + i * (n - 1))).0)
  unfolding last_shares
  lasts_at [] at i h = absurd (omega arith)
  lasts_at (v ∷ vs) at zero h = rw (zero-mul (n - 1), add-zero at)
  lasts_at (v ∷ vs) at (suc i) h =
      let q : at + (n - 1) + i * (n - 1) ≡ at + suc i * (n - 1) = omega (arith, suc-mul i (n - 1)) in
      lasts_at vs (at + (n - 1)) i (omega arith) ∙ ap (λ t. bit_xor (get_or vs i 0) (opened (next (n - 1) ws t).0)) q

  module _ (key : List ℕ) (m at : ℕ) (z : List ℕ) (room : length z ≡ m) (w : ℕ) where
    abbrev all : List ℕ
    all = last_shares n (key_words H m key) ws at

    as_many : length all ≡ m
    as_many = length_lasts (key_words H m key) at ∙ length_words 4 m (filled (m * 4) key)

    pub lasts_next : (p v mask : ℕ) → w < length z → v ≡ number_of 4 (drop (4 * w) key)
        → mask ≡ opened (next (n - 1) ws p).0 → p ≡ at + w * (n - 1) → take w z ≡ take w all
        → take (w + 1) (set z w (bit_xor v mask)) ≡ take (w + 1) all
    lasts_next p v mask h e f place =
        let inside : w < length (key_words H m key) = omega (arith, length_words 4 m (filled (m * 4) key)) in
        filled_next z all w (bit_xor v mask) h (room ∙ sym as_many)
        (rw (f, e, word_is key w m (omega arith), place) (sym (lasts_at (key_words H m key) at w inside)))

    pub lasts_end : length z ≤ w → take w z ≡ take w all → z ≡ all
    lasts_end h p = filled_end z all w (omega (arith, as_many)) (room ∙ sym as_many) p

-- ---- a word in shares: those of the supply, and the last one
next_part : (ws : List ℕ) (m at : ℕ) → at + m ≤ length ws → (next m ws at).0 ≡ take m (drop at ws)
unfolding next
next_part ws zero at h = refl
next_part ws (suc m) at h =
    rw (drop-cons ws at 0 (omega arith))
    (ap (λ (l : List ℕ). get_or ws at 0 ∷ l)
    (next_part ws m (at + 1) (omega arith) ∙ ap (λ t. take m (drop t ws)) (add-one at)))

pub share_made : (last at : ℕ) (z ws d : List ℕ) → 0 < length z → at + (length z - 1) ≤ length ws
    → (let m = length z - 1 in d ≡ take (at + m - at) (drop at ws)
    → set (d ++ drop (m - 0) z) m last ≡ (next m ws at).0 ++ (last ∷ []))
share_made last at z ws d some room e =
    let m = length z - 1 in
    let q : at + m - at ≡ m = omega arith in
    let is : d ≡ (next m ws at).0 = e ∙ rw q (sym (next_part ws m at room)) in
    rw (sub-zero m, is) (set_last (next m ws at).0 z last m ((next_rule m).makes ws at) (omega arith))

-- ---- zeros after words: a part of so much is the same with more of them
pub part_same : (d m room : ℕ) (s : List ℕ) → d + m ≤ room
    → take m (drop d (filled (d + m) s)) ≡ take m (drop d (filled room s))
part_same d m room s h = part_of d (filled (d + m) s) ∙ ap (drop d) (front s (d + m) room h)
    ∙ sym (part_of d (filled room s))
  where
    part_of : (d : ℕ) (x : List ℕ) → take m (drop d x) ≡ drop d (take (d + m) x)
    part_of zero x = rw zero-add
    part_of (suc d) [] = rw (take-nil m, take-nil (suc d + m))
    part_of (suc d) (a ∷ x) = rw (suc-add d m) (part_of d x)

    front : (s : List ℕ) (r t : ℕ) → r ≤ t → take r (filled r s) ≡ take r (filled t s)
    front [] r t h =
        rw (sub-zero r, sub-zero t)
        (rw (sub-zero r) at (lent_zeros r r (omega arith)) ∙ sym (rw (sub-zero r) at (lent_zeros t r h)))
    front (a ∷ s) zero t h = refl
    front (a ∷ s) (suc r) zero h = absurd (omega arith)
    front (a ∷ s) (suc r) (suc t) h =
        let one : suc r - suc (length s) ≡ r - length s = omega arith in
        let other : suc t - suc (length s) ≡ t - length s = omega arith in
        rw (one, other) (ap (λ (l : List ℕ). a ∷ l) (front s r t (omega arith)))

-- ---- the words of the key, and zeros after them
module _ (n : ℕ) (some : 0 < n) (ws : List ℕ) where
  -- the first word, and those after it
  word_first : (x s : List ℕ) → length x ≡ n → word n 0 (x ++ s) ≡ x
  unfolding word
  word_first x s h = rw (zero-mul n) (take_at x s n h)

  word_later : (i : ℕ) (x s : List ℕ) → length x ≡ n → word n (suc i) (x ++ s) ≡ word n i s
  unfolding word
  word_later i x s h =
      let e : suc i * n ≡ length x + i * n = omega (arith, suc-mul i n) in
      rw e (ap (take n) (drop-append-add x s (i * n)))

  abbrev one : ℕ → ℕ → List ℕ
  one last at = (next (n - 1) ws at).0 ++ (last ∷ [])

  length_one : (last at : ℕ) → length (one last at) ≡ n
  length_one last at = length-append (next (n - 1) ws at).0 (last ∷ []) ∙ omega (arith, (next_rule (n - 1)).makes ws at)

  pub length_held : (lasts : List ℕ) (at : ℕ) → length (held n lasts ws at) ≡ length lasts * n
  unfolding held
  length_held [] at = sym (zero-mul n)
  length_held (last ∷ lasts) at =
      length-append (one last at) (held n lasts ws (at + (n - 1)))
      ∙ omega (arith, length_one last at, length_held lasts (at + (n - 1)), suc-mul (length lasts) n)

  held_at : (lasts : List ℕ) (at i : ℕ) → i < length lasts
      → word n i (held n lasts ws at) ≡ one (get_or lasts i 0) (at + i * (n - 1))
  unfolding held
  held_at [] at i h = absurd (omega arith)
  held_at (last ∷ lasts) at zero h =
      word_first (one last at) (held n lasts ws (at + (n - 1))) (length_one last at)
      ∙ rw (zero-mul (n - 1), add-zero at)
  held_at (last ∷ lasts) at (suc i) h =
      let q : at + (n - 1) + i * (n - 1) ≡ at + suc i * (n - 1) = omega (arith, suc-mul i (n - 1)) in
      word_later i (one last at) (held n lasts ws (at + (n - 1))) (length_one last at)
      ∙ held_at lasts (at + (n - 1)) i (omega arith) ∙ ap (one (get_or lasts i 0)) q

  module _ (lasts : List ℕ) (at i : ℕ) where
    abbrev s : List ℕ
    s = held n lasts ws at

    word_held : (room : ℕ) → i < length lasts → word n i (filled room s) ≡ one (get_or lasts i 0) (at + i * (n - 1))
    unfolding word
    word_held room h =
        let z : List ℕ = replicate (room - length s) 0 in
        let inside : i * n + n ≤ length s = omega (arith, length_held lasts at, mul-le-mul_right n h, suc-mul i n) in
        let left : n ≤ length (drop (i * n) s) = rw (length-drop (i * n) s) (omega arith) in
        ap (take n) (drop-append-le (i * n) s z (omega arith)) ∙ take-append-le n (drop (i * n) s) z left
        ∙ held_at lasts at i h

    word_zeros : (room : ℕ) → length lasts ≤ i → i * n + n ≤ room → word n i (filled room s) ≡ replicate n 0
    unfolding word
    word_zeros room h l =
        let gap = i * n - length s in
        let many = room - length s in
        let past : length s ≤ i * n = omega (arith, length_held lasts at, mul-le-mul_right n h) in
        let place : i * n ≡ length s + gap = omega arith in
        let rest : n ≤ many - gap = omega arith in
        ap (λ t. take n (drop t (filled room s))) place
        ∙ ap (take n) (drop-append-add s (replicate many 0) gap)
        ∙ ap (take n) (rw (sub-zero gap) at (zeros_after many gap (omega arith)))
        ∙ rw (sub-zero n) at (lent_zeros (many - gap) n rest)

    pub held_made : (m : ℕ) (z : List ℕ) → i < length lasts → m ≡ n
        → z ≡ (next (m - 1) ws (at + i * (n - 1))).0 ++ (get_or lasts i 0 ∷ []) → z ≡ word n i (filled (i * n + n) s)
    held_made m z h l e = e ∙ rw l (sym (word_held (i * n + n) h))

    pub zeros_made : (m : ℕ) (z : List ℕ) → length lasts ≤ i → m ≡ n → z ≡ replicate m 0
        → z ≡ word n i (filled (i * n + n) s)
    zeros_made m z h e f = f ∙ rw e (sym (word_zeros (i * n + n) h (omega arith)))

-- ---- block j of the key, word by word
module _ (n : ℕ) (lasts ws : List ℕ) (at j : ℕ) where
  abbrev whole : List ℕ
  whole = filled (j * (16 * n) + 16 * n) (held n lasts ws at)

  abbrev block : List ℕ
  block = take (16 * n) (drop (j * (16 * n)) whole)

  pub block_next : (w : ℕ) (z y : List ℕ) → w < 16
      → (let i = 16 * j + w in
      take (w * n + n) y ≡ take (w * n) z ++ word n i (filled (i * n + n) (held n lasts ws at)))
      → take (w * n) z ≡ take (w * n) block → take ((w + 1) * n) y ≡ take ((w + 1) * n) block
  unfolding word
  block_next w z y h e p =
      let i = 16 * j + w in
      let more : (w + 1) * n ≡ w * n + n = omega (arith, add-mul w 1 n) in
      let rest = drop (j * (16 * n)) whole in
      let fits : w * n + n ≤ 16 * n = omega (arith, mul-le-mul_right n h, suc-mul w n) in
      let place : j * (16 * n) + w * n ≡ i * n =
      omega (arith, add-mul (16 * j) w n, ap (λ t. t * n) (mul_comm 16 j) ∙ mul_assoc j 16 n) in
      let same : word n i (filled (i * n + n) (held n lasts ws at)) ≡ take n (drop (w * n) rest) =
      part_same (i * n) n (j * (16 * n) + 16 * n) (held n lasts ws at) (omega arith)
      ∙ ap (take n) (sym (drop-drop (w * n) (j * (16 * n)) whole ∙ ap (λ t. drop t whole) place)) in
      let front : take (w * n) z ≡ take (w * n) rest = p ∙ take-take (w * n) (16 * n) rest (omega arith) in
      rw more
      (e ∙ ap₂ (λ (a b : List ℕ). a ++ b) front same
      ∙ sym (take-take (w * n + n) (16 * n) rest fits ∙ take-add (w * n) n rest))

-- ---- the words in shares are those of the rule
pub splits_held : (n : ℕ) (ws vs : List ℕ) (at : ℕ)
    → splits n vs ws at ≡ (held n (last_shares n vs ws at) ws at, at + length vs * (n - 1))
unfolding splits split held last_shares
splits_held n ws [] at = rw (zero-mul (n - 1), add-zero at)
splits_held n ws (v ∷ vs) at =
    let after : (next (n - 1) ws at).1 ≡ at + (n - 1) = (next_rule (n - 1)).place ws at in
    let q : at + (n - 1) + length vs * (n - 1)
    ≡ at + suc (length vs) * (n - 1) = omega (arith, suc-mul (length vs) (n - 1)) in
    rw (after, splits_held n ws vs (at + (n - 1)), q)
