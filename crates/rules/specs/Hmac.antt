-- Sections 2 and 6, and request (iii): a key in shares, and masked HMAC of a message, over any hash in shares.
use Rattle.std.specs.Prelude.{ℕ, zero, suc, ◌+◌, ◌-◌, ◌*◌, ◌/◌, List, [], ◌∷◌, ◌++◌, leb, length, take, drop, replicate}
use Rattle.std.specs.Int.Bits.{bit_xor}
use Rattle.words.specs.Word.{Word}
use Rattle.rules.specs.Supply.{Draw, Count, Sharing, split}
use Rattle.rules.specs.Numbers.{largest, choose}
use Rattle.rules.specs.Shares.{each}
use Rattle.rules.specs.Hash.{Bytes, Hash, block_bytes, chain_words, digest_bytes, number_of, words_of, all_bytes}
use Rattle.rules.specs.Hash.{padding, ending}
use Rattle.rules.specs.Hash.{filled}
use Rattle.rules.specs.Sha1.{publics, open_words}

-- A hash in shares: the standard's, its code in a state, its compression of a block of 16 words into a chain, and how
-- many words that draws
pub record Masked : Type 0 where
  pub standard : Hash
  pub code : ℕ
  pub compress : Count → Sharing → Sharing → Draw Sharing
  pub draws : Count → ℕ

-- A chain record has room for the chain's words at the largest share count: 80 places for SHA-1, 128 for SHA-256. Those
-- looked at on entry; a chain with 0 in the rest
abbrev pub chain_room : Hash → ℕ
chain_room H = chain_words H * largest

unfoldable pub used : Hash → Count → Sharing → Sharing
used H n chain = take (chain_words H * n) chain

unfoldable pub chain_of : Hash → Count → Sharing → Sharing
chain_of H n h = h ++ replicate (chain_room H - chain_words H * n) 0

-- words split one after the other
unfoldable pub splits : Count → List Word → Draw Sharing
splits n [] ws at = ([], at)
splits n (v ∷ vs) ws at =
    let s = split n v ws at in
    let rest = splits n vs ws s.1 in
    (s.0 ++ rest.0, rest.1)

-- A XOR constant, also a padding byte in a word already shared, goes into share 1: words of shares XOR public words
unfoldable pub marked : Count → List Word → Sharing → Sharing
marked n cs z = each bit_xor z (publics n cs)

-- a key block: the byte c in every byte of share 1
abbrev pub every_byte : Hash → ℕ → Word
every_byte H c = number_of H.word_bytes (replicate H.word_bytes c)

abbrev pub keyed : Hash → Count → ℕ → Sharing → Sharing
keyed H n c key = marked n (replicate 16 (every_byte H c)) key

-- m blocks in shares, compressed one after the other
unfoldable pub blocks : Masked → Count → ℕ → Sharing → Sharing → Draw Sharing
blocks M n zero W h ws at = (h, at)
blocks M n (suc m) W h ws at =
    let c = M.compress n h (take (16 * n) W) ws at in
    blocks M n m (drop (16 * n) W) c.0 ws c.1

-- A key's bytes as they stand, in m big-endian words, filled with zero bytes
abbrev pub key_words : Hash → ℕ → Bytes → List Word
key_words H m key = words_of H.word_bytes m (filled (m * H.word_bytes) key)

-- how many words hold l bytes: ceil(l / bytes of a word)
abbrev pub words_for : Hash → ℕ → ℕ
words_for H l = (l + (H.word_bytes - 1)) / H.word_bytes

-- A key over one block: all its words are split, then hashed in shares under their true length; the padding is 0 where
-- the key's bytes stand. The digest's words, then zero shares, are the key block.
unfoldable pub hash_key : Masked → Count → Bytes → Draw Sharing
hash_key M n key ws at =
    let H = M.standard in
    let s = splits n (key_words H (words_for H (length key)) key) ws at in
    let pad = ending H 0 (replicate (length key) 0) in
    let W = marked n pad (filled (length pad * n) s.0) in
    let d = blocks M n (length pad / 16) W (publics n H.start) ws s.1 in
    (filled (16 * n) d.0, d.1)

-- A key of up to one block is padded with zero bytes to a block, read as 16 big-endian words, and split word by word
unfoldable pub split_key : Masked → Count → Bytes → Draw Sharing
split_key M n key =
    let H = M.standard in
    choose (leb (length key) (block_bytes H)) (splits n (key_words H 16 key)) (hash_key M n key)

-- the digest block: a digest in shares, and its padding after one block and itself
abbrev pub digest_padding : Hash → List Word
digest_padding H = words_of H.word_bytes (16 - chain_words H) (padding H (block_bytes H + digest_bytes H))

-- the steps of HMAC: a key block into the chain that starts a hash; a text after `before` bytes, with its padding, into
-- a chain; the digest block of the inner chain into the outer one
abbrev pub key_step : Masked → Count → ℕ → Sharing → Draw Sharing
key_step M n c key = M.compress n (publics n M.standard.start) (keyed M.standard n c key)

abbrev pub text_step : Masked → Count → ℕ → Bytes → Sharing → Draw Sharing
text_step M n before text h = let W = ending M.standard before text in blocks M n (length W / 16) (publics n W) h

abbrev pub digest_step : Masked → Count → Sharing → Sharing → Draw Sharing
digest_step M n inner outer = M.compress n outer (inner ++ publics n (digest_padding M.standard))

-- HMAC compresses the inner key block, the message blocks, the outer key block, the digest block. The inner digest
-- stays in shares.
unfoldable pub hmac_shares : Masked → Count → Sharing → Bytes → Draw Sharing
hmac_shares M n key text ws at =
    let i = key_step M n 0x36 key ws at in
    let d = text_step M n (block_bytes M.standard) text i.0 ws i.1 in
    let o = key_step M n 0x5c key ws d.1 in
    digest_step M n d.0 o.0 ws o.1

-- Only the tag is opened
abbrev pub tag_of : Hash → Count → Sharing → Bytes
tag_of H n digest = all_bytes H.word_bytes (open_words n (chain_words H) digest)

unfoldable pub hmac_tag : Masked → Count → Sharing → Bytes → Draw Bytes
hmac_tag M n key text ws at =
    let t = hmac_shares M n key text ws at in
    (tag_of M.standard n t.0, t.1)
