-- Constants XORed into share 1, as the code's loop marks them; public words in shares.
use Prim.Native.Nat.{ℕ, zero, suc, ◌+◌, ◌-◌, ◌*◌, ◌≤◌, ◌<◌}
use mathlib.Core.Path.{◌≡◌, refl, sym, ap, ap₂, ◌∙◌}
use mathlib.Core.List.{List, [], ◌∷◌, ◌++◌}
use native.Mathlib.Omega.{arith}
use native.Mathlib.Nat.{suc-add, suc-mul, zero-add, zero-mul}
use native.Mathlib.Numerals.{add-one}
use lib.Bits.{bit_xor}
use lib.ListN.{length, get_or, set, take, drop, replicate, length-append, length-drop, length-set, length-replicate}
use lib.ListN.{take-append-drop}
use lib.ListN.{drop_of_length-le, get_or-append}
use lib.Seq.{drop-cons, length-take-le, take-append-add, drop-append-add, take-nil, drop-nil, get_or-append-add}
use lib.Seq.{set-append_left}
use Rattle.rules.specs.Shares.{each}
use Rattle.rules.specs.Sha1.{public, publics}
use Rattle.rules.specs.Hmac.{marked}
use Rattle.rules.proofs.Openings.{each_append}
use Rattle.rules.proofs.Keys.{each_zeros}

-- sixteen words have room in a block
pub public_room : (n l m : ℕ) → l ≡ 16 → m ≡ 16 * n → m ≡ l * n
public_room n l m e f = rw e f

pub length_publics : (n : ℕ) (vs : List ℕ) → 0 < n → length (publics n vs) ≡ length vs * n
unfolding publics public
length_publics n [] h = sym (zero-mul n)
length_publics n (v ∷ vs) h =
    rw (suc-mul (length vs) n) (simp (length-append, length-replicate, length_publics n vs h) (omega arith))

-- ---- constants into share 1, as the code's loop marks them: from word i on
unfoldable pub marking : ℕ → List ℕ → ℕ → List ℕ → List ℕ
marking n [] i z = z
marking n (v ∷ vs) i z = marking n vs (suc i) (set z (i * n) (bit_xor (get_or z (i * n) 0) v))

pub marking_next : (n : ℕ) (vs z : List ℕ) (w v : ℕ) (y e : List ℕ) → w < length vs → v ≡ get_or vs w 0
    → y ≡ set z (w * n) (bit_xor (get_or z (w * n) 0) v) → marking n (drop w vs) w z ≡ e
    → marking n (drop (w + 1) vs) (w + 1) y ≡ e
unfolding marking
marking_next n vs z w v y e h f g p = rw (g, f, add-one w) (rw (drop-cons vs w 0 h) at p)

-- the words in front stay
module _ (n : ℕ) (some : 0 < n) where
  length_public : (v : ℕ) → length (public n v) ≡ n
  unfolding public
  length_public v = omega (arith, length-replicate {A = ℕ} (n - 1) 0)

  marking_later : (vs : List ℕ) (i : ℕ) (x s : List ℕ) → length x ≡ n
      → marking n vs (suc i) (x ++ s) ≡ x ++ marking n vs i s
  unfolding marking
  marking_later [] i x s h = refl
  marking_later (v ∷ vs) i x s h =
      let e : suc i * n ≡ length x + i * n = omega (arith, h, suc-mul i n) in
      rw (e, get_or-append-add x s (i * n) 0, set_later x s (i * n))
      (marking_later vs (suc i) x (set s (i * n) (bit_xor (get_or s (i * n) 0) v)) h)
    where
      set_later : (x s : List ℕ) (i a : ℕ) → set (x ++ s) (length x + i) a ≡ x ++ set s i a
      set_later [] s i a = rw zero-add
      set_later (b ∷ x) s i a = rw (suc-add (length x) i) (ap (λ (l : List ℕ). b ∷ l) (set_later x s i a))

  mark_one : (x : List ℕ) (v : ℕ) → length x ≡ n → set x 0 (bit_xor (get_or x 0 0) v) ≡ each bit_xor x (public n v)
  unfolding each public
  mark_one [] v h = absurd (omega arith)
  mark_one (a ∷ x) v h = ap (λ (l : List ℕ). bit_xor a v ∷ l) (sym (each_zeros x (n - 1) (omega arith)).0)

  marking_is : (vs z : List ℕ) → length z ≡ length vs * n → marking n vs 0 z ≡ marked n vs z
  unfolding marking marked publics each
  marking_is [] [] h = refl
  marking_is [] (a ∷ z) h = absurd (omega (arith, zero-mul n))
  marking_is (v ∷ vs) z h =
      let x = take n z in
      let s = drop n z in
      let front : length x ≡ n = length-take-le n z (omega (arith, suc-mul (length vs) n)) in
      let left : length s ≡ length vs * n = length-drop n z ∙ omega (arith, suc-mul (length vs) n) in
      let y = set x 0 (bit_xor (get_or x 0 0) v) in
      let one : set (x ++ s) 0 (bit_xor (get_or (x ++ s) 0 0) v) ≡ y ++ s =
      rw (get_or-append x s 0 0 (omega arith)) (set-append_left x s 0 (bit_xor (get_or x 0 0) v) (omega arith)) in
      ap (λ t. marking n vs 1 (set t (0 * n) (bit_xor (get_or t (0 * n) 0) v))) (sym (take-append-drop n z))
      ∙ rw (zero-mul n) (ap (marking n vs 1) one)
      ∙ marking_later vs 0 y s (length-set x 0 _ ∙ front)
      ∙ ap₂ (λ (a b : List ℕ). a ++ b) (mark_one x v front) (marking_is vs s left)
      ∙ sym (each_append bit_xor x (public n v) s (publics n vs) (length_public v ∙ sym front))
      ∙ ap (λ t. each bit_xor t (public n v ++ publics n vs)) (take-append-drop n z)

  pub marking_end : (vs z e : List ℕ) (w : ℕ) → length vs ≤ w → length e ≡ length vs * n
      → marking n (drop w vs) w z ≡ marking n vs 0 e → z ≡ marked n vs e
  unfolding marking
  marking_end vs z e w h l p = rw (drop_of_length-le vs h) at p ∙ marking_is vs e l

  -- into zeros
  pub published : (vs z y : List ℕ) (l : ℕ) → l ≡ length vs * n → z ≡ replicate l 0 → y ≡ marked n vs z
      → y ≡ publics n vs
  unfolding marked
  published vs z y l e f g = g ∙ rw (f, e) (each_zeros (publics n vs) (length vs * n) (length_publics n vs some)).1

  -- a part of public words is public words
  publics_drop : (i : ℕ) (vs : List ℕ) → drop (i * n) (publics n vs) ≡ publics n (drop i vs)
  unfolding publics
  publics_drop zero vs = rw (zero-mul n)
  publics_drop (suc i) [] = drop-nil (suc i * n)
  publics_drop (suc i) (v ∷ vs) =
      let e : suc i * n ≡ length (public n v) + i * n = omega (arith, suc-mul i n, length_public v) in
      rw e (drop-append-add (public n v) (publics n vs) (i * n) ∙ publics_drop i vs)

  publics_take : (i : ℕ) (vs : List ℕ) → take (i * n) (publics n vs) ≡ publics n (take i vs)
  unfolding publics
  publics_take zero vs = rw (zero-mul n)
  publics_take (suc i) [] = take-nil (suc i * n)
  publics_take (suc i) (v ∷ vs) =
      let e : suc i * n ≡ length (public n v) + i * n = omega (arith, suc-mul i n, length_public v) in
      rw e (take-append-add (public n v) (publics n vs) (i * n)
      ∙ ap (λ (t : List ℕ). public n v ++ t) (publics_take i vs))

  pub publics_part : (m i : ℕ) (vs : List ℕ) → take (m * n) (drop (i * n) (publics n vs))
      ≡ publics n (take m (drop i vs))
  publics_part m i vs = ap (take (m * n)) (publics_drop i vs) ∙ publics_take m (drop i vs)
