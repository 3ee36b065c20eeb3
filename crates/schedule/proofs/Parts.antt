-- The schedule of masked SHA-1 in its window, from the parts that the code works out one after the other.
use Prim.Native.Nat.{ℕ, zero, suc, ◌+◌, ◌-◌, ◌*◌, ◌%◌, ◌≤◌, ◌<◌}
use mathlib.Core.Path.{◌≡◌, refl, sym, ap, ◌∙◌}
use mathlib.Core.List.{List, ◌++◌}
use native.Mathlib.Nat.{add-zero, zero-add, mul-le-mul_right}
use native.Mathlib.Decide.{dec_lt}
use native.Mathlib.Omega.{arith}
use borrow.Author.Tests.{le-leb, lt-leb}
use lib.Bits.{bit_xor}
use lib.ListN.{length, get_or, set, take, drop, length-append, length-drop, length-map}
use lib.Seq.{sets, length-sets, length-take-le, take_all, drop_at, drop-drop}
use Rattle.rules.specs.Shares.{each}
use Rattle.rules.specs.Sha1.{word, rotl, rotated, ago, following, schedule}
use Rattle.rules.proofs.Loops.{mapped_next, mapped_end}
use Rattle.rules.proofs.Openings.{length_each, each_at}
use Rattle.masked_words.specs.Words.{turned}
use Rattle.masked_words.proofs.Parts.{word_front, ago_is}
use Rattle.masked_words.proofs.Turned.{turned_turned, turned_none, turned_one, turned_first, length_turned}
use Rattle.schedule.specs.Window.{Window, slid}

-- ---- ago: a word of the window
pub ago_word : (n r j : ℕ) (u x : List ℕ) → length u ≡ 16 * n → j ≤ 16 → x ≡ word n (16 - j) (turned n r u)
    → x ≡ ago n j (turned n r u)
ago_word n r j u x size h e =
    let all : 16 - j + j ≡ 16 = omega arith in
    e ∙ sym (ago_is n (16 - j) j (turned n r u) (length_turned n r u ∙ rw all size))

-- ---- mixed: four words, combined and rotated, up to share i and at the end of all
abbrev combined : List ℕ → List ℕ → List ℕ → List ℕ → List ℕ
combined a b c d = each bit_xor (each bit_xor (each bit_xor a b) c) d

each_size : (n : ℕ) (x y : List ℕ) → length x ≡ n → length y ≡ n → length (each bit_xor x y) ≡ n
each_size n x y e f = length_each bit_xor x y (f ∙ sym e) ∙ e

module _ (k n : ℕ) (a b c d : List ℕ)
    (la : length a ≡ n) (lb : length b ≡ n) (lc : length c ≡ n) (ld : length d ≡ n) where
  two : length (each bit_xor a b) ≡ n
  two = each_size n a b la lb

  three : length (each bit_xor (each bit_xor a b) c) ≡ n
  three = each_size n (each bit_xor a b) c two lc

  four : length (combined a b c d) ≡ n
  four = each_size n (each bit_xor (each bit_xor a b) c) d three ld

  module _ (z : List ℕ) (lz : length z ≡ n) (i : ℕ) where
    share : (x y : List ℕ) → length x ≡ n → length y ≡ n → i < n
        → get_or (each bit_xor x y) i 0 ≡ bit_xor (get_or x i 0) (get_or y i 0)
    share x y e f h = each_at bit_xor x y (f ∙ sym e) i (omega arith)

    pub mixed_next : (v : ℕ) → i < n
        → v ≡ rotl k 1 (bit_xor (bit_xor (bit_xor (get_or a i 0) (get_or b i 0)) (get_or c i 0)) (get_or d i 0))
        → take i z ≡ take i (rotated k 1 (combined a b c d))
        → take (i + 1) (set z i v) ≡ take (i + 1) (rotated k 1 (combined a b c d))
    mixed_next v h e =
        mapped_next (rotl k 1) (combined a b c d) z i (lz ∙ sym four) (i + 1) v refl (omega (arith, four))
        (rw (share (each bit_xor (each bit_xor a b) c) d three ld h, share (each bit_xor a b) c two lc h)
        (rw (share a b la lb h) e))

    pub mixed_end : n ≤ i → take i z ≡ take i (rotated k 1 (combined a b c d)) → z ≡ rotated k 1 (combined a b c d)
    mixed_end h = mapped_end (rotl k 1) (combined a b c d) z i (lz ∙ sym four) (omega (arith, four))

-- ---- following_at: of the four words before it
pub following_made : (k n : ℕ) (W a b c d z : List ℕ)
    → a ≡ ago n 3 W → b ≡ ago n 8 W → c ≡ ago n 14 W → d ≡ ago n 16 W
    → z ≡ rotated k 1 (each bit_xor (each bit_xor (each bit_xor a b) c) d) → z ≡ following k n W
unfolding following
following_made k n W a b c d z ea eb ec ed ez = rw (← ea, ← eb, ← ec, ← ed) ez

-- the word that follows t + 16 words, by their places
module _ (k n t : ℕ) (W : List ℕ) (size : length W ≡ (t + 16) * n) where
  following_is : following k n W
      ≡ rotated k 1 (combined (word n (t + 13) W) (word n (t + 8) W) (word n (t + 2) W) (word n t W))
  unfolding following
  following_is =
      let at : (i j : ℕ) → i + j ≡ t + 16 → ago n j W ≡ word n i W =
      λ i j e. ago_is n i j W (size ∙ ap (λ m. m * n) (sym e)) in
      rw (at (t + 13) 3 (omega arith), at (t + 8) 8 (omega arith), at (t + 2) 14 (omega arith), at t 16 (omega arith))

  word_size : (i : ℕ) → i < t + 16 → length (word n i W) ≡ n
  unfolding word
  word_size i h =
      length-take-le n (drop (i * n) W) (omega (arith, length-drop (i * n) W, mul-le-mul_right n h))

  length_following : length (following k n W) ≡ n
  length_following =
      let at : (i : ℕ) → i < t + 16 → length (word n i W) ≡ n = word_size in
      ap length following_is ∙ length-map (combined _ _ _ _) (rotl k 1)
      ∙ four k n (word n (t + 13) W) (word n (t + 8) W) (word n (t + 2) W) (word n t W)
      (at (t + 13) (omega arith)) (at (t + 8) (omega arith)) (at (t + 2) (omega arith)) (at t (omega arith))

-- ---- replace: the word that follows, stored over the first word
pub replaced : (k n r : ℕ) (u u' x : List ℕ) → r < 16 → length u ≡ 16 * n
    → x ≡ following k n (turned n r u) → turned n r u' ≡ sets (turned n r u) (0 * n) x
    → turned n ((r + 1) % 16) u' ≡ drop n (turned n r u) ++ following k n (turned n r u)
replaced k n r u u' x h size e g =
    let whole : length (turned n r u) ≡ 16 * n = length_turned n r u ∙ size in
    let size' : length u' ≡ 16 * n =
    sym (length_turned n r u') ∙ ap length g ∙ length-sets (turned n r u) (0 * n) x ∙ whole in
    let one : length x ≡ n = ap length e ∙ length_following k n 0 (turned n r u) whole in
    sym (turned_turned n 16 r 1 u' size' h (omega arith)) ∙ ap (turned n 1) g
    ∙ turned_first n (turned n r u) x (omega arith) one ∙ ap (λ y. drop n (turned n r u) ++ y) e

-- ---- slide: the window after this one, where the schedule goes on and where it ends
module _ (k n t : ℕ) (u : List ℕ) where
  next : (t % 16 + 1) % 16 ≡ (t + 1) % 16
  next = omega arith

  pub slid_on : (u' : List ℕ) → t < 64
      → turned n ((t % 16 + 1) % 16) u' ≡ drop n (turned n (t % 16) u) ++ following k n (turned n (t % 16) u)
      → turned n ((t + 1) % 16) u' ≡ slid k n t (turned n (t % 16) u)
  unfolding slid
  slid_on u' h e = rw (le-leb (t + 17) 80 (omega arith)) (rw next at e)

  pub slid_end : length u ≡ 16 * n → 64 ≤ t → turned n ((t + 1) % 16) u ≡ slid k n t (turned n (t % 16) u)
  unfolding slid
  slid_end size h =
      rw (lt-leb (t + 17) 80 (omega arith), ← next)
      (sym (turned_turned n 16 (t % 16) 1 u size (omega arith) (omega arith)) ∙ turned_one n (turned n (t % 16) u))

-- ---- what the window holds, round by round
-- the word that is behind the front of two lists
word_behind : (n i : ℕ) (a b : List ℕ) → length a ≡ i * n → length b ≡ n → word n i (a ++ b) ≡ b
unfolding word
word_behind n i a b e f = rw (drop_at a b (i * n) e) (take_all n b (omega arith))

word_after : (n i : ℕ) (s : List ℕ) → word n i (drop n s) ≡ word n (i + 1) s
unfolding word
word_after n i s = let place : (i + 1) * n ≡ n + i * n = omega arith in rw (place, ← drop-drop (i * n) n s)

module _ (k n : ℕ) where
  -- the schedule keeps the words that it begins with
  keeps : (m i : ℕ) (W : List ℕ) → i * n + n ≤ length W → word n i (schedule k n m W) ≡ word n i W
  unfolding schedule
  keeps zero i W h = refl
  keeps (suc m) i W h =
      keeps m i (W ++ following k n W) (omega (arith, length-append W (following k n W)))
      ∙ word_front n i W (following k n W) h

  -- and each later word is made of four before it: the first one that it adds, and all
  abbrev Made : ℕ → List ℕ → Type 0
  Made t S = word n (t + 16) S
      ≡ rotated k 1 (combined (word n (t + 13) S) (word n (t + 8) S) (word n (t + 2) S) (word n t S))

  first_made : (m t : ℕ) (W : List ℕ) → length W ≡ (t + 16) * n → Made t (schedule k n (suc m) W)
  unfolding schedule
  first_made m t W size =
      let x = following k n W in
      let one : length x ≡ n = length_following k n t W size in
      let kept : (i : ℕ) → i < t + 16 → word n i (schedule k n (suc m) W) ≡ word n i W =
      λ i h. keeps (suc m) i W (omega (arith, mul-le-mul_right n h)) in
      rw (kept (t + 13) (omega arith), kept (t + 8) (omega arith), kept (t + 2) (omega arith), kept t (omega arith))
      (keeps m (t + 16) (W ++ x) (omega (arith, length-append W x)) ∙ word_behind n (t + 16) W x size one
      ∙ following_is k n t W size)

  all_made : (m d l : ℕ) (W : List ℕ) → length W ≡ (l + 16) * n → d < m → Made (l + d) (schedule k n m W)
  unfolding schedule
  all_made zero d l W size h = absurd (omega arith)
  all_made (suc m) zero l W size h = rw (add-zero l) (first_made m l W size)
  all_made (suc m) (suc d) l W size h =
      let x = following k n W in
      let more : length (W ++ x) ≡ (l + 1 + 16) * n =
      length-append W x ∙ omega (arith, length_following k n l W size) in
      let place : l + suc d ≡ l + 1 + d = omega arith in
      rw place (all_made m d (l + 1) (W ++ x) more (omega arith))

module _ (k n : ℕ) (block : List ℕ) (size : length block ≡ 16 * n) where
  pub window_begins : Window n (schedule k n 64 block) 0 (turned n 0 block)
  unfolding Window
  window_begins i h low =
      rw (turned_none n block, zero-add i) (sym (keeps k n 64 i block (omega (arith, mul-le-mul_right n h))))

  -- the word of a round is the window's first
  pub window_word : (t : ℕ) (window : List ℕ) → t < 80 → Window n (schedule k n 64 block) t window
      → word n 0 window ≡ word n t (schedule k n 64 block)
  unfolding Window
  window_word t window h holds =
      holds 0 (omega arith) (omega arith) ∙ ap (λ i. word n i (schedule k n 64 block)) (add-zero t)

  module _ (t : ℕ) (window : List ℕ) (whole : length window ≡ 16 * n)
      (holds : Window n (schedule k n 64 block) t window) where
    rest : length (drop n window) ≡ 15 * n
    rest = length-drop n window ∙ omega arith

    -- the others move up
    others : (i : ℕ) (x : List ℕ) → i < 15 → t + 1 + i < 80
        → word n i (drop n window ++ x) ≡ word n (t + 1 + i) (schedule k n 64 block)
    unfolding Window
    others i x h low =
        let place : t + (i + 1) ≡ t + 1 + i = omega arith in
        word_front n i (drop n window) x (omega (arith, rest, mul-le-mul_right n h)) ∙ word_after n i window
        ∙ holds (i + 1) (omega arith) (omega arith) ∙ ap (λ j. word n j (schedule k n 64 block)) place

    -- the new one is the schedule's
    newest : t + 16 < 80
        → word n 15 (drop n window ++ following k n window) ≡ word n (t + 16) (schedule k n 64 block)
    unfolding Window
    newest low =
        let at : (i : ℕ) → i < 16 → word n i window ≡ word n (t + i) (schedule k n 64 block) =
        λ i h. holds i h (omega arith) in
        let made : Made k n t (schedule k n 64 block) =
        rw (zero-add t) at (all_made k n 64 t 0 block size (omega arith)) in
        word_behind n 15 (drop n window) (following k n window) rest (length_following k n 0 window whole)
        ∙ following_is k n 0 window whole
        ∙ rw (at 13 (omega arith), at 8 (omega arith), at 2 (omega arith), at 0 (omega arith), add-zero t) (sym made)

    slid_holds : Window n (schedule k n 64 block) (t + 1) (slid k n t window)
    unfolding Window slid
    slid_holds i h low = go (dec_lt i 15)
      where
        go : Dec (i < 15) → word n i (slid k n t window) ≡ word n (t + 1 + i) (schedule k n 64 block)
        go (yes l) = others i _ l low
        go (no l) =
            let last : i ≡ 15 = omega arith in
            let place : t + 1 + 15 ≡ t + 16 = omega arith in
            rw (last, place, le-leb (t + 17) 80 (omega arith)) (newest (omega arith))

  pub window_next : (t : ℕ) (u u' : List ℕ) → length u ≡ 16 * n
      → Window n (schedule k n 64 block) t (turned n (t % 16) u)
      → turned n ((t + 1) % 16) u' ≡ slid k n t (turned n (t % 16) u)
      → Window n (schedule k n 64 block) (t + 1) (turned n ((t + 1) % 16) u')
  window_next t u u' whole holds e =
      rw e (slid_holds t (turned n (t % 16) u) (length_turned n (t % 16) u ∙ whole) holds)
