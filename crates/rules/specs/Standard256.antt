-- FIPS 180-4: SHA-256, unmasked, over words of k bits; SHA-256 itself has k = 32. Numbers are the standard's sections.
use Rattle.std.specs.Prelude.{ℕ, ◌-◌, ◌/◌, ◌^◌, List, [], ◌∷◌, get_or}
use Rattle.std.specs.Int.Bits.{bit_xor}
use Rattle.words.specs.Word.{Width, Word, plus}
use Rattle.rules.specs.Hash.{Hash, ago, schedule, rounds, sums}
use Rattle.rules.specs.Standard.{ROTL, Ch, Maj}

-- 3.2: the rotation to the right by r places, which is one to the left by k − r, and the shift to the right
unfoldable pub ROTR : Width → ℕ → Word → Word
ROTR k r x = ROTL k (k - r) x

unfoldable pub SHR : ℕ → Word → Word
SHR r x = x / 2 ^ r

-- 4.1.2: Σ0, Σ1, σ0 and σ1
unfoldable pub Σ : Width → ℕ → ℕ → ℕ → Word → Word
Σ k p q r x = bit_xor (bit_xor (ROTR k p x) (ROTR k q x)) (ROTR k r x)

unfoldable pub σ : Width → ℕ → ℕ → ℕ → Word → Word
σ k p q r x = bit_xor (bit_xor (ROTR k p x) (ROTR k q x)) (SHR r x)

abbrev pub Σ0 : Width → Word → Word
Σ0 k = Σ k 2 13 22

abbrev pub Σ1 : Width → Word → Word
Σ1 k = Σ k 6 11 25

abbrev pub σ0 : Width → Word → Word
σ0 k = σ k 7 18 3

abbrev pub σ1 : Width → Word → Word
σ1 k = σ k 17 19 10

-- 4.2.2: the constants of the rounds
abbrev pub constants : List Word
constants =
    0x428a2f98 ∷ 0x71374491 ∷ 0xb5c0fbcf ∷ 0xe9b5dba5 ∷ 0x3956c25b ∷ 0x59f111f1 ∷ 0x923f82a4 ∷ 0xab1c5ed5 ∷
    0xd807aa98 ∷ 0x12835b01 ∷ 0x243185be ∷ 0x550c7dc3 ∷ 0x72be5d74 ∷ 0x80deb1fe ∷ 0x9bdc06a7 ∷ 0xc19bf174 ∷
    0xe49b69c1 ∷ 0xefbe4786 ∷ 0x0fc19dc6 ∷ 0x240ca1cc ∷ 0x2de92c6f ∷ 0x4a7484aa ∷ 0x5cb0a9dc ∷ 0x76f988da ∷
    0x983e5152 ∷ 0xa831c66d ∷ 0xb00327c8 ∷ 0xbf597fc7 ∷ 0xc6e00bf3 ∷ 0xd5a79147 ∷ 0x06ca6351 ∷ 0x14292967 ∷
    0x27b70a85 ∷ 0x2e1b2138 ∷ 0x4d2c6dfc ∷ 0x53380d13 ∷ 0x650a7354 ∷ 0x766a0abb ∷ 0x81c2c92e ∷ 0x92722c85 ∷
    0xa2bfe8a1 ∷ 0xa81a664b ∷ 0xc24b8b70 ∷ 0xc76c51a3 ∷ 0xd192e819 ∷ 0xd6990624 ∷ 0xf40e3585 ∷ 0x106aa070 ∷
    0x19a4c116 ∷ 0x1e376c08 ∷ 0x2748774c ∷ 0x34b0bcb5 ∷ 0x391c0cb3 ∷ 0x4ed8aa4a ∷ 0x5b9cca4f ∷ 0x682e6ff3 ∷
    0x748f82ee ∷ 0x78a5636f ∷ 0x84c87814 ∷ 0x8cc70208 ∷ 0x90befffa ∷ 0xa4506ceb ∷ 0xbef9a3f7 ∷ 0xc67178f2 ∷ []

unfoldable pub K : ℕ → Word
K t = get_or constants t 0

-- 5.3.3: the starting chain
abbrev pub H0 : List Word
H0 =
    0x6a09e667 ∷ 0xbb67ae85 ∷ 0x3c6ef372 ∷ 0xa54ff53a ∷ 0x510e527f ∷ 0x9b05688c ∷ 0x1f83d9ab ∷ 0x5be0cd19 ∷ []

-- 6.2.2, 1: the schedule: the word after those of W
unfoldable pub following : Width → List Word → Word
following k W = plus k (plus k (plus k (σ1 k (ago 2 W)) (ago 7 W)) (σ0 k (ago 15 W))) (ago 16 W)

-- 6.2.2, 3: round t with the schedule's word w, on the words a, b, c, d, e, f, g, h
unfoldable pub round : Width → ℕ → Word → List Word → List Word
round k t w s =
    let a = get_or s 0 0 in
    let b = get_or s 1 0 in
    let c = get_or s 2 0 in
    let d = get_or s 3 0 in
    let e = get_or s 4 0 in
    let f = get_or s 5 0 in
    let g = get_or s 6 0 in
    let h = get_or s 7 0 in
    let T1 = plus k (plus k (plus k (plus k h (Σ1 k e)) (Ch k e f g)) (K t)) w in
    let T2 = plus k (Σ0 k a) (Maj a b c) in
    plus k T1 T2 ∷ a ∷ b ∷ c ∷ plus k d T1 ∷ e ∷ f ∷ g ∷ []

-- 6.2.2: the chain h after one block of 16 words
unfoldable pub compress : Width → List Word → List Word → List Word
compress k h block = sums k h (rounds (round k) (schedule (following k) 48 block) 64 0 h)

-- SHA-256 is a hash of words of 32 bits, in four bytes each
abbrev pub SHA256 : Width → Hash
SHA256 k = record { word_bytes = 4; start = H0; compress = compress k; length_bytes = 8 }
