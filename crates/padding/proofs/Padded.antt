-- The bytes and words of a text with its padding, by place.
use Prim.Native.Nat.{ℕ, zero, suc, ◌+◌, ◌-◌, ◌*◌, ◌/◌, ◌%◌, ◌≤◌, ◌<◌}
use mathlib.Core.Path.{◌≡◌, refl, sym, ap, ap₂, ◌∙◌}
use mathlib.Core.List.{List, [], ◌∷◌, ◌++◌, append_assoc}
use native.Mathlib.Nat.{zero-add}
use native.Mathlib.Omega.{arith}
use borrow.Author.Rules.{rules}
use lib.ListN.{length, get_or, set, take, drop, replicate, length-drop, length-replicate, get_or-append}
use lib.ListN.{replicate-append-replicate}
use lib.Seq.{get_or-append-add, get_or-take, get_or-drop, length-take-le, take_at, drop_at, drop-append-add}
use Rattle.std.specs.Int.{w32, w64, to_be_bytes, from_be_bytes}
use Rattle.words.proofs.Stores.{filled_next, lent_zeros}
use Rattle.rules.specs.Hash.{Hash, bytes_of, number_of, words_of, zeros, padding, ended, ending}
use Rattle.rules.specs.Standard.{SHA1}
use Rattle.rules.specs.Counts.{standard_of}
use Rattle.rules.proofs.Bytes.{words_alike, number_zeros}
use Rattle.rules.proofs.Hashes.{ended_length, ending_length, ending_front}
use Rattle.rules.proofs.Tags.{hash_proper}
use Rattle.padding.specs.Whole.{blocks_in}

abbrev H : Hash
H = SHA1 32

-- every hash of the library has this padding
pub any_ending : (code before : ℕ) (text : List ℕ) → ending H before text ≡ ending (standard_of 32 code) before text
unfolding ending ended padding zeros
any_ending code before text = refl

bytes_are : (v : ℕ) → to_be_bytes w64 v ≡ bytes_of 8 v
unfolding bytes_of
bytes_are v = search rules

-- ---- byte i of a text after whole blocks
module _ (before : ℕ) (text : List ℕ) (i : ℕ) where
  abbrev L : ℕ
  L = length text

  -- what stands after the one bit: zeros, then the count of bits
  abbrev rest : List ℕ
  rest = replicate (zeros H (before + L)) 0 ++ bytes_of 8 ((before + L) * 8)

  whole : before % 64 ≡ 0 → L + 9 + zeros H (before + L) ≡ blocks_in L * 64
  unfolding zeros
  whole h = omega arith

  after : (d : ℕ) → i ≡ L + suc d → get_or (ended H before text) i 0 ≡ get_or rest d 0
  unfolding padding ended
  after d e = ap (λ t. get_or (ended H before text) t 0) e ∙ get_or-append-add text (padding H (before + L)) (suc d) 0

  pub text_case : i < L → get_or text i 0 ≡ get_or (ended H before text) i 0
  unfolding ended
  text_case h = sym (get_or-append text (padding H (before + L)) 0 i h)

  pub one_case : i ≡ L → 0x80 ≡ get_or (ended H before text) i 0
  unfolding padding ended
  one_case e =
      let q : i ≡ L + 0 = omega arith in
      sym (ap (λ t. get_or (ended H before text) t 0) q ∙ get_or-append-add text (padding H (before + L)) 0 0)

  pub zero_case : before % 64 ≡ 0 → (count : ℕ) → count ≡ blocks_in L → L ≤ i → (i ≡ L → ⊥) → i + 8 < count * 64
      → 0 ≡ get_or (ended H before text) i 0
  zero_case h count e l k m =
      let d = i - L - 1 in
      let place : i ≡ L + suc d = omega arith in
      sym (after d place ∙ zero_at (zeros H (before + L)) d (bytes_of 8 ((before + L) * 8)) (omega (arith, whole h)))
    where
      zero_at : (z d : ℕ) (s : List ℕ) → d < z → get_or (replicate z 0 ++ s) d 0 ≡ 0
      zero_at zero d s h = absurd (omega arith)
      zero_at (suc z) zero s h = refl
      zero_at (suc z) (suc d) s h = zero_at z d s (omega arith)

  pub count_case : before % 64 ≡ 0 → (count : ℕ) (v : List ℕ) → count ≡ blocks_in L → L ≤ i → (i ≡ L → ⊥)
      → count * 64 ≤ i + 8 → v ≡ to_be_bytes w64 ((before + L) * 8)
      → get_or v (i + 8 - count * 64) 0 ≡ get_or (ended H before text) i 0
  count_case h count v e l k m f =
      let z : List ℕ = replicate (zeros H (before + L)) 0 in
      let p = i + 8 - count * 64 in
      let place : i ≡ L + suc (length z + p) =
      omega (arith, length-replicate {A = ℕ} (zeros H (before + L)) 0, whole h) in
      rw (f, bytes_are) (sym (after (length z + p) place ∙ get_or-append-add z (bytes_of 8 ((before + L) * 8)) p 0))

-- ---- word i of bytes
pub word_of : (m : ℕ) (bs : List ℕ) (i : ℕ) → i < m
    → get_or (words_of 4 m bs) i 0
    ≡ ((get_or bs (4 * i) 0 * 256 + get_or bs (4 * i + 1) 0) * 256 + get_or bs (4 * i + 2) 0) * 256
    + get_or bs (4 * i + 3) 0
unfolding words_of number_of
word_of zero bs i h = absurd (omega arith)
word_of (suc m) bs zero h = omega arith
word_of (suc m) bs (suc i) h =
    let e0 : 4 * suc i ≡ 4 + 4 * i = omega arith in
    let e1 : 4 * suc i + 1 ≡ 4 + (4 * i + 1) = omega arith in
    let e2 : 4 * suc i + 2 ≡ 4 + (4 * i + 2) = omega arith in
    let e3 : 4 * suc i + 3 ≡ 4 + (4 * i + 3) = omega arith in
    word_of m (drop 4 bs) i (omega arith)
    ∙ rw (
      e1,
      e2,
      e3,
      e0,
      get_or-drop 4 bs (4 * i) 0,
      get_or-drop 4 bs (4 * i + 1) 0,
      get_or-drop 4 bs (4 * i + 2) 0,
      get_or-drop 4 bs (4 * i + 3) 0,
    )

pub word_made : (m : ℕ) (bs : List ℕ) (i : ℕ) {a b c d r : ℕ} → i < m
    → a ≡ get_or bs (4 * i) 0 → b ≡ get_or bs (4 * i + 1) 0 → c ≡ get_or bs (4 * i + 2) 0 → d ≡ get_or bs (4 * i + 3) 0
    → r ≡ from_be_bytes w32 (a ∷ b ∷ c ∷ d ∷ []) → r ≡ get_or (words_of 4 m bs) i 0
word_made m bs i h ea eb ec ed er = omega (arith, word_of m bs i h)

-- ---- the words of a text
module _ (before : ℕ) (text : List ℕ) (aligned : before % 64 ≡ 0) where
  length_ended : length (ended H before text) ≡ 64 * blocks_in (length text)
  length_ended = ended_length H (hash_proper 32 0) (before / 64) before (omega arith) text

  length_ending : length (ending H before text) ≡ 16 * blocks_in (length text)
  length_ending = ending_length H (hash_proper 32 0) (before / 64) before (omega arith) text

  pub text_word : (i : ℕ) {a b c d r : ℕ} → i < blocks_in (length text) * 16
      → a ≡ get_or (ended H before text) (4 * i) 0 → b ≡ get_or (ended H before text) (4 * i + 1) 0
      → c ≡ get_or (ended H before text) (4 * i + 2) 0 → d ≡ get_or (ended H before text) (4 * i + 3) 0
      → r ≡ from_be_bytes w32 (a ∷ b ∷ c ∷ d ∷ []) → r ≡ get_or (ending H before text) i 0
  unfolding ending
  text_word i h = word_made (length (ended H before text) / 4) (ended H before text) i (omega (arith, length_ended))

  -- block j, filled from the front
  module _ (j : ℕ) (inside : j < blocks_in (length text)) (z : List ℕ) (room : length z ≡ 16) (w : ℕ) where
    abbrev block : List ℕ
    block = take 16 (drop (16 * j) (ending H before text))

    length_block : length block ≡ 16
    length_block =
        let W = ending H before text in
        length-take-le 16 (drop (16 * j) W) (rw (length-drop (16 * j) W) (omega (arith, length_ending)))

    pub block_next : (v : ℕ) → w < 16 → v ≡ get_or (ending H before text) (16 * j + w) 0 → take w z ≡ take w block
        → take (w + 1) (set z w v) ≡ take (w + 1) block
    block_next v h e p =
        filled_next z block w v (omega arith) (room ∙ sym length_block)
        (e ∙ sym (get_or-take 16 (drop (16 * j) (ending H before text)) w 0 (omega arith)
        ∙ get_or-drop (16 * j) (ending H before text) w 0)) p

-- ---- the padding after l bytes that are 0: whole blocks of zeros, then the rest
module _ (l j : ℕ) where
  abbrev full : ℕ
  full = l / 64

  abbrev all : List ℕ
  all = ending H 0 (replicate l 0)

  abbrev last : List ℕ
  last = ending H (full * 64) (replicate (l % 64) 0)

  parts : all ≡ replicate (full * 16) 0 ++ last
  parts =
      let front : full * 16 * 4 ≡ full * 64 = omega arith in
      let whole : l ≡ full * 64 + l % 64 = omega arith in
      let zero_words : words_of 4 (full * 16) (replicate (full * 64) 0) ≡ replicate (full * 16) 0 =
      rw front at (words_alike 0 4 (full * 16)) ∙ ap (replicate (full * 16)) (number_zeros 4 4) in
      ap (λ t. ending H 0 (replicate t 0)) whole
      ∙ ap (ending H 0) (sym (replicate-append-replicate {A = ℕ} (full * 64) (l % 64) 0))
      ∙ ending_front H (hash_proper 32 0) full 0 (replicate (full * 64) 0) (replicate (l % 64) 0)
      (length-replicate {A = ℕ} (full * 64) 0)
      ∙ ap₂ (λ x t. x ++ ending H t (replicate (l % 64) 0)) zero_words (zero-add (full * 64))

  pub pad_full : (m : ℕ) (z : List ℕ) → j < full → m ≡ 16 → z ≡ replicate m 0 → z ≡ take 16 (drop (16 * j) all)
  pad_full m z h e f =
      let left = full * 16 - 16 * j - 16 in
      let x : List ℕ = replicate (16 * j) 0 in
      let y : List ℕ = replicate 16 0 in
      let rest : List ℕ = replicate left 0 ++ last in
      let many : full * 16 ≡ 16 * j + (16 + left) = omega arith in
      let cut : all ≡ x ++ (y ++ rest) =
      parts
      ∙ ap (λ (t : List ℕ). t ++ last)
      (ap (λ i. replicate i 0) many
      ∙ sym (replicate-append-replicate {A = ℕ} (16 * j) (16 + left) 0)
      ∙ ap (λ (t : List ℕ). x ++ t) (sym (replicate-append-replicate {A = ℕ} 16 left 0)))
      ∙ append_assoc x (y ++ replicate left 0) last
      ∙ ap (λ (t : List ℕ). x ++ t) (append_assoc y (replicate left 0) last) in
      f ∙ rw e (sym (ap (λ t. take 16 (drop (16 * j) t)) cut
      ∙ ap (take 16) (drop_at x (y ++ rest) (16 * j) (length-replicate {A = ℕ} (16 * j) 0))
      ∙ take_at y rest 16 refl))

  pub pad_last : (z : List ℕ) → full ≤ j
      → z ≡ take 16 (drop (16 * (j - full)) (ending H (full * 64) (take {A = ℕ} (l % 64 - 0) (replicate 64 0))))
      → z ≡ take 16 (drop (16 * j) all)
  pad_last z h f =
      let x : List ℕ = replicate (full * 16) 0 in
      let place : 16 * j ≡ length x + 16 * (j - full) = omega (arith, length-replicate {A = ℕ} (full * 16) 0) in
      f ∙ ap (λ t. take 16 (drop (16 * (j - full)) (ending H (full * 64) t))) (lent_zeros 64 (l % 64) (omega arith))
      ∙ sym (ap₂ (λ i t. take 16 (drop i t)) place parts ∙ ap (take 16) (drop-append-add x last (16 * (j - full))))
