-- Bytes and words: how many, how large, and back. Bytes are words of 8 bits, and a word of m bytes is one of 8m bits.
use Prim.Native.Nat.{ℕ, zero, suc, ◌+◌, ◌*◌, ◌/◌, ◌%◌, ◌^◌, ◌≤◌, ◌<◌}
use mathlib.Core.Path.{◌≡◌, refl, sym, ap, ap₂, ◌∙◌}
use mathlib.Core.List.{List, [], ◌∷◌, ◌++◌, map}
use native.Mathlib.Nat.{mod-lt, mod-eq_of_lt, zero-lt-suc, zero-add, suc-add, zero-mul, suc-mul, pow-suc}
use native.Mathlib.Nat.{div-div-eq-div-mul}
use native.Mathlib.Omega.{arith}
use lib.Arith.{mod-mul}
use lib.Bits.{bit_xor, xor_comm, xor_block}
use lib.Dec.{lit<}
use lib.ListN.{length, get_or, drop, replicate, length-append, length-drop, length-replicate, get_or-append}
use lib.ListN.{replicate-append-replicate}
use lib.Pow.{pow_pos, pow-add}
use lib.Seq.{drop-append-le, drop_at, drop-drop}
use Rattle.rules.specs.Supply.{Words}
use Rattle.rules.specs.Shares.{each}
use Rattle.rules.specs.Hash.{Hash, zeros, bytes_of, number_of, words_of, all_bytes, padding}
use Rattle.rules.proofs.Openings.{each_at, each_drop}
use Rattle.rules.proofs.Conversion.{words_drop}

-- ---- every entry is a word
pub words_join : (k : ℕ) (x y : List ℕ) → Words k x → Words k y → Words k (x ++ y)
words_join k [] y p q i = q i
words_join k (a ∷ x) y p q zero = p 0
words_join k (a ∷ x) y p q (suc i) = words_join k x y (λ j. p (suc j)) q i

pub words_zeros : (k n : ℕ) → Words k (replicate n 0)
words_zeros k zero i = pow_pos k
words_zeros k (suc n) zero = pow_pos k
words_zeros k (suc n) (suc i) = words_zeros k n i

bytes_are_bytes : (m v : ℕ) → Words 8 (bytes_of m v)
unfolding bytes_of
bytes_are_bytes zero v i = lit< tt
bytes_are_bytes (suc m) v zero = mod-lt (v / 256 ^ m) (zero-lt-suc 255)
bytes_are_bytes (suc m) v (suc i) = bytes_are_bytes m v i

pub all_bytes_are_bytes : (size : ℕ) (s : List ℕ) → Words 8 (all_bytes size s)
unfolding all_bytes
all_bytes_are_bytes size [] = λ i. lit< tt
all_bytes_are_bytes size (w ∷ s) =
    words_join 8 (bytes_of size w) (all_bytes size s) (bytes_are_bytes size w) (all_bytes_are_bytes size s)

pub padding_is_bytes : (H : Hash) (l : ℕ) → Words 8 (padding H l)
unfolding padding
padding_is_bytes H l zero = lit< tt
padding_is_bytes H l (suc i) =
    let field = bytes_of H.length_bytes (l * 8) in
    words_join 8 (replicate (zeros H l) 0) field (words_zeros 8 (zeros H l)) (bytes_are_bytes H.length_bytes (l * 8)) i

pub pow_bytes : (m : ℕ) → 256 ^ m ≡ 2 ^ (8 * m)
pow_bytes zero = refl
pow_bytes (suc m) =
    let more : 8 * suc m ≡ 8 * m + 8 = omega arith in
    pow-suc 256 m ∙ ap (λ t. t * 256) (pow_bytes m) ∙ rw more (sym (pow-add 2 (8 * m) 8))

number_lt : (m : ℕ) (b : List ℕ) → Words 8 b → number_of m b < 256 ^ m
unfolding number_of
number_lt zero b h = lit< tt
number_lt (suc m) b h = rw (pow-suc 256 m) (omega (arith, number_lt m b h, h m))

pub bytes_are_words : (size m : ℕ) (b : List ℕ) → Words 8 b → Words (8 * size) (words_of size m b)
unfolding words_of
bytes_are_words size zero b h i = pow_pos (8 * size)
bytes_are_words size (suc m) b h zero = rw (← pow_bytes size) (number_lt size b h)
bytes_are_words size (suc m) b h (suc i) = bytes_are_words size m (drop size b) (words_drop 8 size b h) i

-- ---- how many
pub length_bytes_lem : (m v : ℕ) → length (bytes_of m v) ≡ m
unfolding bytes_of
length_bytes_lem zero v = refl
length_bytes_lem (suc m) v = ap suc (length_bytes_lem m v)

pub length_words : (size m : ℕ) (b : List ℕ) → length (words_of size m b) ≡ m
unfolding words_of
length_words size zero b = refl
length_words size (suc m) b = ap suc (length_words size m (drop size b))

pub length_all_bytes : (size : ℕ) (s : List ℕ) → length (all_bytes size s) ≡ length s * size
unfolding all_bytes
length_all_bytes size [] = sym (zero-mul size)
length_all_bytes size (w ∷ s) =
    length-append (bytes_of size w) (all_bytes size s) ∙ omega
    (arith, length_bytes_lem size w, length_all_bytes size s, suc-mul (length s) size)

-- ---- numbers and words of joined bytes
number_append : (m : ℕ) (x y : List ℕ) → m ≤ length x → number_of m (x ++ y) ≡ number_of m x
unfolding number_of
number_append zero x y h = refl
number_append (suc m) x y h =
    ap₂ (λ a b. a * 256 + b) (number_append m x y (omega arith)) (get_or-append x y 0 m (omega arith))

pub words_split : (size m p : ℕ) (x : List ℕ) → words_of size (m + p) x
    ≡ words_of size m x ++ words_of size p (drop (m * size) x)
unfolding words_of
words_split size zero p x = rw (zero-add, zero-mul size)
words_split size (suc m) p x =
    let place : size + m * size ≡ suc m * size = omega (arith, suc-mul m size) in
    rw (suc-add m p)
    (ap (λ (t : List ℕ). number_of size x ∷ t)
    (words_split size m p (drop size x)
    ∙ ap (λ t. words_of size m (drop size x) ++ words_of size p t)
    (drop-drop (m * size) size x ∙ ap (λ t. drop t x) place)))

-- words read no bytes past their own
pub words_front : (size m : ℕ) (x y : List ℕ) → m * size ≤ length x → words_of size m (x ++ y) ≡ words_of size m x
unfolding words_of
words_front size zero x y h = refl
words_front size (suc m) x y h =
    let room : size ≤ length x = omega (arith, suc-mul m size) in
    rw (number_append size x y room, drop-append-le size x y room)
    (ap (λ (t : List ℕ). number_of size x ∷ t)
    (words_front size m (drop size x) y (rw (length-drop size x) (omega (arith, suc-mul m size)))))

pub words_append : (size m p : ℕ) (x y : List ℕ) → length x ≡ m * size
    → words_of size (m + p) (x ++ y) ≡ words_of size m x ++ words_of size p y
unfolding words_of
words_append size zero p [] y l = rw zero-add
words_append size zero p (a ∷ x) y l = absurd (omega (arith, zero-mul size))
words_append size (suc m) p x y l =
    let room : size ≤ length x = omega (arith, suc-mul m size) in
    let left : length (drop size x) ≡ m * size = length-drop size x ∙ omega (arith, suc-mul m size) in
    rw (suc-add m p, number_append size x y room, drop-append-le size x y room)
    (ap (λ (t : List ℕ). number_of size x ∷ t) (words_append size m p (drop size x) y left))

-- ---- bytes and back: byte i of m, from the front
pub byte_of : (m v i j : ℕ) → i + suc j ≡ m → get_or (bytes_of m v) i 0 ≡ v / 256 ^ j % 256
unfolding bytes_of
byte_of zero v i j e = absurd (omega arith)
byte_of (suc m) v zero j e = let q : m ≡ j = omega arith in rw q
byte_of (suc m) v (suc i) j e = byte_of m v i j (omega arith)

-- the first i of m bytes, with j after them
number_front : (m v : ℕ) (rest : List ℕ) (i j : ℕ) → i + j ≡ m
    → number_of i (bytes_of m v ++ rest) ≡ v / 256 ^ j % 256 ^ i
unfolding number_of
number_front m v rest zero j e = sym (lit_one (v / 256 ^ j))
  where
    lit_one : (a : ℕ) → a % 1 ≡ 0
    lit_one a = omega arith
number_front m v rest (suc i) j e =
    let last : get_or (bytes_of m v ++ rest) i 0 ≡ v / 256 ^ j % 256 =
    get_or-append (bytes_of m v) rest 0 i (omega (arith, length_bytes_lem m v)) ∙ byte_of m v i j (omega arith) in
    let high : v / 256 ^ suc j ≡ v / 256 ^ j / 256 =
    ap (λ t. v / t) (pow-suc 256 j) ∙ sym (div-div-eq-div-mul v (256 ^ j) 256) in
    let front = number_front m v rest i (suc j) (omega arith) ∙ ap (λ t. t % 256 ^ i) high in
    let some : 0 < 256 ^ i = rw (pow_bytes i) (pow_pos (8 * i)) in
    ap₂ (λ a b. a * 256 + b) front last
    ∙ sym (ap (λ t. v / 256 ^ j % t) (pow-suc 256 i) ∙ mod-mul (v / 256 ^ j) some (zero-lt-suc 255))

number_back : (size w : ℕ) (rest : List ℕ) → w < 2 ^ (8 * size) → number_of size (bytes_of size w ++ rest) ≡ w
number_back size w rest h =
    number_front size w rest size 0 (omega arith)
    ∙ ap (λ t. t % 256 ^ size) (one w)
    ∙ mod-eq_of_lt (rw (pow_bytes size) h)
  where
    one : (w : ℕ) → w / 256 ^ 0 ≡ w
    one w = omega arith

pub words_back : (size : ℕ) (s : List ℕ) → Words (8 * size) s → words_of size (length s) (all_bytes size s) ≡ s
unfolding words_of all_bytes
words_back size [] h = refl
words_back size (w ∷ s) h =
    rw (drop_at (bytes_of size w) (all_bytes size s) size (length_bytes_lem size w))
    (ap₂ (λ a (l : List ℕ). a ∷ l) (number_back size w (all_bytes size s) (h 0)) (words_back size s (λ i. h (suc i))))

-- ---- bytes XORed one by one
number_xor : (m : ℕ) (a b : List ℕ) → Words 8 a → Words 8 b → length b ≡ length a → m ≤ length a
    → number_of m (each bit_xor a b) ≡ bit_xor (number_of m a) (number_of m b)
unfolding number_of
number_xor zero a b p q l h = refl
number_xor (suc m) a b p q l h =
    ap₂ (λ x y. x * 256 + y) (number_xor m a b p q l (omega arith)) (each_at bit_xor a b l m h)
    ∙ sym (xor_block 8 (number_of m a) (number_of m b) (get_or a m 0) (get_or b m 0) (p m) (q m))

pub words_xor : (size m : ℕ) (a b : List ℕ) → Words 8 a → Words 8 b → length b ≡ length a → m * size ≤ length a
    → words_of size m (each bit_xor a b) ≡ each bit_xor (words_of size m a) (words_of size m b)
unfolding words_of each
words_xor size zero a b p q l h = refl
words_xor size (suc m) a b p q l h =
    let left : length (drop size b) ≡ length (drop size a) = length-drop size b ∙ rw l (sym (length-drop size a)) in
    let room : m * size ≤ length (drop size a) = rw (length-drop size a) (omega (arith, suc-mul m size)) in
    rw (each_drop bit_xor size a b)
    (ap₂ (λ x (t : List ℕ). x ∷ t)
    (number_xor size a b p q l (omega (arith, suc-mul m size)))
    (words_xor size m (drop size a) (drop size b) (words_drop 8 size a p) (words_drop 8 size b q) left room))

-- the same byte in every place
pub bytes_alike : (c m : ℕ) → c < 256 → Words 8 (replicate m c)
bytes_alike c zero h i = lit< tt
bytes_alike c (suc m) h zero = h
bytes_alike c (suc m) h (suc i) = bytes_alike c m h i

pub every_lt : (c size : ℕ) → c < 256 → number_of size (replicate size c) < 2 ^ (8 * size)
every_lt c size h = rw (← pow_bytes size) (number_lt size (replicate size c) (bytes_alike c size h))

pub words_alike : (c size m : ℕ)
    → words_of size m (replicate (m * size) c) ≡ replicate m (number_of size (replicate size c))
unfolding words_of
words_alike c size zero = refl
words_alike c size (suc m) =
    let one : List ℕ = replicate size c in
    let parts : suc m * size ≡ size + m * size = omega (arith, suc-mul m size) in
    let long : length one ≡ size = length-replicate {A = ℕ} size c in
    rw (parts, ← replicate-append-replicate {A = ℕ} size (m * size) c)
    (rw (number_append size one (replicate (m * size) c) (omega arith), drop_at one (replicate (m * size) c) size long)
    (ap (λ (t : List ℕ). number_of size one ∷ t) (words_alike c size m)))

pub number_zeros : (m l : ℕ) → number_of m (replicate l 0) ≡ 0
unfolding number_of
number_zeros zero l = refl
number_zeros (suc m) l = ap₂ (λ a b. a * 256 + b) (number_zeros m l) (zero_at l m)
  where
    zero_at : (l i : ℕ) → get_or {A = ℕ} (replicate l 0) i 0 ≡ 0
    zero_at zero i = refl
    zero_at (suc l) zero = refl
    zero_at (suc l) (suc i) = zero_at l i

pub map_each : (c : ℕ) (b : List ℕ) → map (bit_xor c) b ≡ each bit_xor b (replicate (length b) c)
unfolding each
map_each c [] = refl
map_each c (a ∷ b) = ap₂ (λ x (t : List ℕ). x ∷ t) (xor_comm c a) (map_each c b)

pub map_at : (f : ℕ → ℕ) (b : List ℕ) (m : ℕ) → m < length b → get_or (map f b) m 0 ≡ f (get_or b m 0)
map_at f [] m h = absurd (omega arith)
map_at f (a ∷ b) zero h = refl
map_at f (a ∷ b) (suc m) h = map_at f b m (omega arith)
