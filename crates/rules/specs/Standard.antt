-- FIPS 180-4: SHA-1, unmasked, over words of k bits; SHA-1 itself has k = 32. Numbers are the standard's sections.
use Rattle.std.specs.Prelude.{ℕ, zero, suc, ◌-◌, ◌/◌, ◌^◌, List, [], ◌∷◌, get_or}
use Rattle.std.specs.Int.Bits.{bit_and, bit_or, bit_xor}
use Rattle.words.specs.Word.{Width, Word, plus, shift}
use Rattle.rules.specs.Hash.{Hash, ago, schedule, rounds, sums}

-- 3.2: the rotation to the left by r places, and the complement
unfoldable pub ROTL : Width → ℕ → Word → Word
ROTL k r x = bit_or (shift k r x) (x / 2 ^ (k - r))

unfoldable pub complement : Width → Word → Word
complement k x = bit_xor x (2 ^ k - 1)

-- 4.1.1: the functions of the rounds 0 to 19, 20 to 39, 40 to 59 and 60 to 79, by the quarter t / 20
unfoldable pub Ch : Width → Word → Word → Word → Word
Ch k x y z = bit_xor (bit_and x y) (bit_and (complement k x) z)

unfoldable pub Parity : Word → Word → Word → Word
Parity x y z = bit_xor (bit_xor x y) z

unfoldable pub Maj : Word → Word → Word → Word
Maj x y z = bit_xor (bit_xor (bit_and x y) (bit_and x z)) (bit_and y z)

unfoldable pub f : Width → ℕ → Word → Word → Word → Word
f k zero x y z = Ch k x y z
f k (suc zero) x y z = Parity x y z
f k (suc (suc zero)) x y z = Maj x y z
f k (suc (suc (suc q))) x y z = Parity x y z

-- 4.2.1: the constant of a quarter
abbrev pub constants : List Word
constants = 0x5a827999 ∷ 0x6ed9eba1 ∷ 0x8f1bbcdc ∷ 0xca62c1d6 ∷ []

abbrev pub K : ℕ → Word
K q = get_or constants q 0

-- 5.3.1: the starting chain
abbrev pub H0 : List Word
H0 = 0x67452301 ∷ 0xefcdab89 ∷ 0x98badcfe ∷ 0x10325476 ∷ 0xc3d2e1f0 ∷ []

-- 6.1.2, 1: the schedule: the word after those of W
unfoldable pub following : Width → List Word → Word
following k W = ROTL k 1 (bit_xor (bit_xor (bit_xor (ago 3 W) (ago 8 W)) (ago 14 W)) (ago 16 W))

-- 6.1.2, 3: a round of quarter q with the schedule's word w, on the words a, b, c, d, e
unfoldable pub round : Width → ℕ → Word → List Word → List Word
round k q w s =
    let a = get_or s 0 0 in
    let b = get_or s 1 0 in
    let c = get_or s 2 0 in
    let d = get_or s 3 0 in
    let e = get_or s 4 0 in
    plus k (plus k (plus k (plus k (ROTL k 5 a) (f k q b c d)) e) (K q)) w ∷ a ∷ ROTL k 30 b ∷ c ∷ d ∷ []

-- 6.1.2: the chain h after one block of 16 words
unfoldable pub compress : Width → List Word → List Word → List Word
compress k h block = sums k h (rounds (λ t. round k (t / 20)) (schedule (following k) 64 block) 80 0 h)

-- SHA-1 is a hash of words of 32 bits, in four bytes each
abbrev pub SHA1 : Width → Hash
SHA1 k = record { word_bytes = 4; start = H0; compress = compress k; length_bytes = 8 }
