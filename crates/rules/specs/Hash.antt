-- FIPS 180-4, what its hashes have in common, and RFC 2104 over any of them, unmasked. Numbers are the standards'
-- sections.
use Rattle.std.specs.Prelude.{ℕ, zero, suc, ◌+◌, ◌-◌, ◌*◌, ◌/◌, ◌%◌, ◌^◌, List, [], ◌∷◌, ◌++◌, map, leb, length}
use Rattle.std.specs.Prelude.{get_or, replicate, take, drop}
use Rattle.std.specs.Int.Bits.{bit_xor}
use Rattle.words.specs.Word.{Width, Word, plus}
use Rattle.rules.specs.Numbers.{choose}

abbrev pub Bytes : Type 0
Bytes = List ℕ

-- What the hashes differ in: the bytes of a word, the starting chain (5.3), the chain after one block of 16 words
-- (6), and the bytes of the padding's length field (5.1). The digest is the whole chain.
pub record Hash : Type 0 where
  pub word_bytes : ℕ
  pub start : List Word
  pub compress : List Word → List Word → List Word
  pub length_bytes : ℕ

abbrev pub block_bytes : Hash → ℕ
block_bytes H = 16 * H.word_bytes

abbrev pub chain_words : Hash → ℕ
chain_words H = length H.start

abbrev pub digest_bytes : Hash → ℕ
digest_bytes H = chain_words H * H.word_bytes

-- 3.1, big-endian: a number as m bytes, and the number of m bytes
unfoldable pub bytes_of : ℕ → ℕ → Bytes
bytes_of zero v = []
bytes_of (suc m) v = v / 256 ^ m % 256 ∷ bytes_of m v

unfoldable pub number_of : ℕ → Bytes → ℕ
number_of zero b = 0
number_of (suc m) b = number_of m b * 256 + get_or b m 0

-- m words of so many bytes each; words as bytes
unfoldable pub words_of : ℕ → ℕ → Bytes → List Word
words_of size zero b = []
words_of size (suc m) b = number_of size b ∷ words_of size m (drop size b)

unfoldable pub all_bytes : ℕ → List Word → Bytes
all_bytes size [] = []
all_bytes size (w ∷ ws) = bytes_of size w ++ all_bytes size ws

-- 5.1: the padding after l bytes: a one bit, zeros, and the count of bits, up to the end of a block
unfoldable pub zeros : Hash → ℕ → ℕ
zeros H l = let block = block_bytes H in (block + block - (1 + H.length_bytes) - l % block) % block

unfoldable pub padding : Hash → ℕ → Bytes
padding H l = 0x80 ∷ replicate (zeros H l) 0 ++ bytes_of H.length_bytes (l * 8)

-- 5.2: what is hashed after `before` bytes that went into the chain already: the text with its padding, as words
unfoldable pub ended : Hash → ℕ → Bytes → Bytes
ended H before text = text ++ padding H (before + length text)

unfoldable pub ending : Hash → ℕ → Bytes → List Word
ending H before text =
    let rest = ended H before text in
    words_of H.word_bytes (length rest / H.word_bytes) rest

-- 6: the word j before the end of a schedule W; m words more after those of W, each by those before it
abbrev pub ago : ℕ → List Word → Word
ago j W = get_or W (length W - j) 0

unfoldable pub schedule : (List Word → Word) → ℕ → List Word → List Word
schedule following zero W = W
schedule following (suc m) W = schedule following m (W ++ (following W ∷ []))

-- m rounds from round t on, each with its word of the schedule
unfoldable pub rounds : (ℕ → Word → List Word → List Word) → List Word → ℕ → ℕ → List Word → List Word
rounds round W zero t s = s
rounds round W (suc m) t s = rounds round W m (t + 1) (round t (get_or W t 0) s)

-- the new chain, word by word
unfoldable pub sums : Width → List Word → List Word → List Word
sums k [] s = []
sums k (x ∷ h) [] = []
sums k (x ∷ h) (y ∷ s) = plus k x y ∷ sums k h s

-- the chain after m blocks
unfoldable pub blocks : Hash → ℕ → List Word → List Word → List Word
blocks H zero W h = h
blocks H (suc m) W h = blocks H m (drop 16 W) (H.compress h (take 16 W))

unfoldable pub digest : Hash → Bytes → Bytes
digest H message =
    let W = ending H 0 message in
    all_bytes H.word_bytes (blocks H (length W / 16) W H.start)

-- RFC 2104, 2: a key over one block is hashed first; zeros are appended up to a block
abbrev pub filled : ℕ → List ℕ → List ℕ
filled room x = x ++ replicate (room - length x) 0

unfoldable pub key_block : Hash → Bytes → Bytes
key_block H key = filled (block_bytes H) (choose (leb (length key) (block_bytes H)) key (digest H key))

-- H(K XOR opad, H(K XOR ipad, text))
unfoldable pub hmac : Hash → Bytes → Bytes → Bytes
hmac H key text =
    let inner = digest H (map (bit_xor 0x36) (key_block H key) ++ text) in
    digest H (map (bit_xor 0x5c) (key_block H key) ++ inner)
