-- Words in shares, from the parts that the code works out one after the other.
use Prim.Native.Nat.{ℕ, zero, suc, ◌+◌, ◌-◌, ◌*◌, ◌≤◌, ◌<◌}
use mathlib.Core.Path.{◌≡◌, refl}
use mathlib.Core.List.{List, [], ◌++◌}
use native.Mathlib.Nat.{suc-mul, add-mul, mul-le-mul_right}
use native.Mathlib.Omega.{arith}
use lib.ListN.{length, set, take, drop, replicate, length-drop}
use lib.Seq.{length-take-le, take_all, take-append-le, drop-append-le}
use Rattle.rules.specs.Sha1.{word, public, ago}
use Rattle.masked_words.specs.Words.{firsts}

-- ---- word: word w, as a part of a slice
pub word_part : (n w : ℕ) (s : List ℕ) → w * n + n ≤ length s
    → (let r = take (w * n + n - w * n) (drop (w * n) s) in (r ≡ word n w s) × (length r ≡ n))
unfolding word
word_part n w s h =
    let e : w * n + n - w * n ≡ n = omega arith in
    rw e (refl, length-take-le n (drop (w * n) s) (omega (arith, length-drop (w * n) s)))

-- a word below the m-th ends within m words
pub word_room : (n t m : ℕ) (s : List ℕ) → t < m → length s ≡ m * n → t * n + n ≤ length s
word_room n t m s h e = omega (arith, mul-le-mul_right n h, suc-mul t n)

-- a word within the front of two lists; a word counted from the end
pub word_front : (n i : ℕ) (a b : List ℕ) → i * n + n ≤ length a → word n i (a ++ b) ≡ word n i a
unfolding word
word_front n i a b h =
    rw (drop-append-le (i * n) a b (omega arith))
    (take-append-le n (drop (i * n) a) b (omega (arith, length-drop (i * n) a)))

pub ago_is : (n i j : ℕ) (W : List ℕ) → length W ≡ (i + j) * n → ago n j W ≡ word n i W
unfolding ago word
ago_is n i j W size = let place : length W - j * n ≡ i * n = omega (arith, add-mul i j n) in rw place

-- ---- several words, filled from the front: none so far
pub firsts_none : (n : ℕ) (z : List ℕ) → firsts n 0 z ≡ []
unfolding firsts
firsts_none n z = let none : 0 * n ≡ 0 = omega arith in rw none

-- all the words, where there are m
pub firsts_all : (n m : ℕ) (z : List ℕ) → length z ≡ m * n → firsts n m z ≡ z
unfolding firsts
firsts_all n m z e = take_all (m * n) z (omega arith)

-- ---- public: a value in front of zeros
pub public_made : (n m v : ℕ) (z : List ℕ) → 0 < n → m ≡ n → z ≡ replicate m 0 → set z 0 v ≡ public n v
unfolding public
public_made zero m v z h e f = absurd (omega arith)
public_made (suc n) m v z h e f = let q : suc n - 1 ≡ n = omega arith in rw (f, e, q)
