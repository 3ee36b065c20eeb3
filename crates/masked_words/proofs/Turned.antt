-- m words of n shares in a ring: what stands where, seen from word r on.
use Prim.Native.Nat.{ℕ, ◌+◌, ◌-◌, ◌*◌, ◌%◌, ◌≤◌, ◌<◌}
use mathlib.Core.Path.{◌≡◌, sym, ap, ◌∙◌}
use mathlib.Core.List.{List, [], ◌++◌, append_assoc, append-nil}
use native.Mathlib.Nat.{zero-add, mul-le-mul_right, mod-lt, mod_self, mod-eq_of_lt, mod-eq-sub-mod}
use native.Mathlib.Decide.{dec_lt}
use native.Mathlib.Omega.{arith}
use lib.ListN.{length, take, drop, length-append, length-drop, take-append-drop, drop_of_length-le}
use lib.Seq.{sets, sets-eq, length-sets, length-take-le, take_at, drop_at, take-add, take-take, drop-drop}
use lib.Seq.{take-append-le, drop-append-le, take-append-add, drop-append-add}
use Rattle.rules.specs.Sha1.{word}
use Rattle.masked_words.specs.Words.{firsts, turned}

-- ---- turned_place: which word stands at place i, without the remainder
module _ (m r i : ℕ) (h : r < m) where
  pub place_within : i < m - r → r + i ≡ (r + i) % m
  place_within l = sym (mod-eq_of_lt (omega arith))

  pub place_past : i ≤ m → m - r ≤ i → i - (m - r) ≡ (r + i) % m
  place_past l k =
      let over : i - (m - r) ≡ r + i - m = omega arith in
      over ∙ sym (mod-eq-sub-mod {n = r + i} {m = m} (omega arith) ∙ mod-eq_of_lt (omega arith))

-- ---- r words on, then i more: within the end of the ring, or past it
module _ (n m r i : ℕ) (s : List ℕ) (size : length s ≡ m * n) (h : r < m) where
  front : length (take (r * n) s) ≡ r * n
  front = length-take-le (r * n) s (omega (arith, mul-le-mul_right n h))

  back : length (drop (r * n) s) ≡ m * n - r * n
  back = length-drop (r * n) s ∙ omega arith

  turned_within : r + i ≤ m → turned n i (turned n r s) ≡ turned n (r + i) s
  unfolding turned
  turned_within l =
      let x = take (r * n) s in
      let y = drop (r * n) s in
      let room : i * n ≤ length y = omega (arith, back, mul-le-mul_right n l) in
      let both : (r + i) * n ≡ r * n + i * n = omega arith in
      rw (drop-append-le (i * n) y x room, take-append-le (i * n) y x room)
      (rw (both, ← drop-drop (i * n) (r * n) s, take-add (r * n) (i * n) s)
      (append_assoc (drop (i * n) y) x (take (i * n) y)))

  turned_past : (d : ℕ) → d + m ≡ r + i → i ≤ m → turned n i (turned n r s) ≡ turned n d s
  unfolding turned
  turned_past d e l =
      let x = take (r * n) s in
      let y = drop (r * n) s in
      let all : (d + m) * n ≡ (r + i) * n = ap (λ k. k * n) e in
      let room : d * n ≤ r * n = mul-le-mul_right n (omega arith) in
      let over : i * n ≡ length y + d * n = omega (arith, back, mul-le-mul_right n h) in
      let behind : drop (d * n) s ≡ drop (d * n) x ++ y =
      ap (drop (d * n)) (sym (take-append-drop (r * n) s)) ∙ drop-append-le (d * n) x y (omega (arith, front)) in
      rw (over, drop-append-add y x (d * n), take-append-add y x (d * n), behind, ← take-take (d * n) (r * n) s room)
      (sym (append_assoc (drop (d * n) x) y (take (d * n) x)))

  pub turned_turned : i ≤ m → turned n i (turned n r s) ≡ turned n ((r + i) % m) s
  turned_turned l = go (dec_lt i (m - r))
    where
      go : Dec (i < m - r) → turned n i (turned n r s) ≡ turned n ((r + i) % m) s
      go (yes p) = rw (← place_within m r i h p) (turned_within (omega arith))
      go (no p) = rw (← place_past m r i h l (omega arith)) (turned_past (i - (m - r)) (omega arith) l)

-- ---- m words, as they stand from word i on
pub turned_none : (n : ℕ) (s : List ℕ) → turned n 0 s ≡ s
unfolding turned
turned_none n s = let none : 0 * n ≡ 0 = omega arith in rw none (append-nil s)

pub length_turned : (n r : ℕ) (s : List ℕ) → length (turned n r s) ≡ length s
unfolding turned
length_turned n r s =
    let a = take (r * n) s in
    let b = drop (r * n) s in
    omega (arith, ap length (take-append-drop (r * n) s), length-append a b, length-append b a)

-- a front of r words comes behind the rest
turned_append : (n r : ℕ) (x y : List ℕ) → length x ≡ r * n → turned n r (x ++ y) ≡ y ++ x
unfolding turned
turned_append n r x y e = rw (drop_at x y (r * n) e, take_at x y (r * n) e)

module _ (n m i : ℕ) (h : i < m) where
  -- the front is word i
  turned_front : (s : List ℕ) → length s ≡ m * n → take n (turned n i s) ≡ word n i s
  unfolding turned word
  turned_front s e =
      take-append-le n (drop (i * n) s) (take (i * n) s)
      (omega (arith, mul-le-mul_right n h, length-drop (i * n) s))

  -- a store over word i is one over the front
  turned_stored : (s x : List ℕ) → length s ≡ m * n → length x ≡ n
      → turned n i (sets s (i * n) x) ≡ x ++ drop n (turned n i s)
  unfolding turned
  turned_stored s x e f =
      let a = i * n in
      let room : a + n ≤ length s = omega (arith, mul-le-mul_right n h) in
      let rest : drop n (turned n i s) ≡ drop (a + n) s ++ take a s =
      drop-append-le n (drop a s) (take a s) (omega (arith, length-drop a s)) ∙ rw (drop-drop n a s) in
      rw (sets-eq x s a (omega arith), f, append_assoc (take a s) x (drop (a + n) s), rest)
      (turned_append n i (take a s) (x ++ drop (a + n) s) (length-take-le a s (omega arith))
      ∙ append_assoc x (drop (a + n) s) (take a s))

  -- what is the same from word i on is the same
  turned_same : (a b : List ℕ) → length a ≡ m * n → length b ≡ m * n → turned n i a ≡ turned n i b → a ≡ b
  turned_same a b e f g = sym (back a e) ∙ ap (turned n (m - i)) g ∙ back b f
    where
      back : (s : List ℕ) → length s ≡ m * n → turned n (m - i) (turned n i s) ≡ s
      back s e =
          let all : i + (m - i) ≡ m = omega arith in
          turned_turned n m i (m - i) s e h (omega arith) ∙ rw (all, mod_self m) (turned_none n s)

-- a store over the last word w comes before the others
pub turned_last : (n w : ℕ) (s x : List ℕ) → length s ≡ w * n + n → length x ≡ n
    → turned n w (sets s (w * n) x) ≡ x ++ firsts n w s
unfolding firsts
turned_last n w s x e f =
    let none : drop (w * n + length x) s ≡ [] = drop_of_length-le s {i = w * n + length x} (omega arith) in
    rw (sets-eq x s (w * n) (omega arith), none, append-nil (take (w * n) s ++ x))
    (turned_append n w (take (w * n) s) x (length-take-le (w * n) s (omega arith)))

-- one word on: the first comes behind the others, and so does one that is stored over it
pub turned_one : (n : ℕ) (s : List ℕ) → turned n 1 s ≡ drop n s ++ take n s
unfolding turned
turned_one n s = let one : 1 * n ≡ n = omega arith in rw one

pub turned_first : (n : ℕ) (s x : List ℕ) → n ≤ length s → length x ≡ n
    → turned n 1 (sets s (0 * n) x) ≡ drop n s ++ x
turned_first n s x h e =
    let none : 0 * n ≡ 0 = omega arith in
    rw (none, sets-eq x s 0 (omega arith), e, zero-add n) (turned_append n 1 x (drop n s) (omega arith))

-- ---- turned_word, put_turned: word i from word r on is word w
module _ (n m r i w : ℕ) (h : r < m) (l : i < m) (e : w ≡ (r + i) % m) where
  turns : (s : List ℕ) → length s ≡ m * n → turned n i (turned n r s) ≡ turned n w s
  turns s size = rw e (turned_turned n m r i s size h (omega arith))

  pub turned_below : w < m
  turned_below = rw e (mod-lt (r + i) (omega arith))

  module _ (s x : List ℕ) (size : length s ≡ m * n) where
    same_size : length (turned n r s) ≡ m * n
    same_size = length_turned n r s ∙ size

    pub turned_word : x ≡ word n w s → x ≡ word n i (turned n r s)
    turned_word f =
        f ∙ sym (turned_front n m w turned_below s size) ∙ ap (take n) (sym (turns s size))
        ∙ turned_front n m i l (turned n r s) same_size

    pub turned_sets : (s' : List ℕ) → length x ≡ n → s' ≡ sets s (w * n) x
        → turned n r s' ≡ sets (turned n r s) (i * n) x
    turned_sets s' f g =
        let size' : length s' ≡ m * n = ap length g ∙ length-sets s (w * n) x ∙ size in
        turned_same n m i l (turned n r s') (sets (turned n r s) (i * n) x) (length_turned n r s' ∙ size')
        (length-sets (turned n r s) (i * n) x ∙ same_size)
        (turns s' size' ∙ ap (turned n w) g ∙ turned_stored n m w turned_below s x size f
        ∙ ap (λ (y : List ℕ). x ++ drop n y) (sym (turns s size))
        ∙ sym (turned_stored n m i l (turned n r s) x same_size f))
