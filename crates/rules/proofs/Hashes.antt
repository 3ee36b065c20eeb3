-- What is asked of a hash, and what follows: how long texts are with their padding, and hashing block by block.
use Prim.Native.Nat.{ℕ, zero, suc, ◌+◌, ◌-◌, ◌*◌, ◌/◌, ◌≤◌, ◌<◌}
use mathlib.Core.Path.{◌≡◌, refl, sym, ap, ap₂, ◌∙◌}
use mathlib.Core.Bool.{Bool, true, false}
use mathlib.Core.List.{List, ◌++◌, map, append_assoc}
use native.Mathlib.Nat.{mul-add-div, mul-div_right, mul_assoc, mul_comm, mul-add, add-mul, zero-add, suc-add, suc-mul}
use native.Mathlib.Nat.{zero-mul, mul-le-mul_right}
use native.Mathlib.Numerals.{add-one}
use native.Mathlib.Omega.{arith}
use lib.Bits.{bit_xor}
use lib.Dec.{lit<, leb}
use lib.ListN.{length, replicate, take, drop, length-append, length-drop, length-map, length-replicate}
use lib.Seq.{take_at, drop_at, take_all, drop-drop, take-append-le, drop-append-le}
use borrow.Author.Tests.{leb-true}
use Rattle.rules.specs.Supply.{Words}
use Rattle.rules.specs.Numbers.{choose}
use Rattle.rules.specs.Shares.{each}
use Rattle.rules.specs.Hash.{Hash, block_bytes, chain_words, digest_bytes, words_of, all_bytes, padding, ended, ending}
use Rattle.rules.specs.Hash.{blocks, digest, key_block, hmac}
use Rattle.rules.specs.Hmac.{every_byte, digest_padding}
use Rattle.rules.proofs.Bytes.{words_join, words_zeros, bytes_are_words, padding_is_bytes, length_words}
use Rattle.rules.proofs.Bytes.{length_all_bytes}
use Rattle.rules.proofs.Bytes.{words_append, words_back, words_xor, words_alike, bytes_alike, map_each}
use Rattle.rules.proofs.Bytes.{all_bytes_are_bytes}

-- a chain of the hash's words
abbrev pub Chained : Hash → List ℕ → Type 0
Chained H h = (length h ≡ chain_words H) × Words (8 * H.word_bytes) h

-- a text with its padding is whole blocks; the digest and its padding are one block
pub record Proper (H : Hash) : Type 0 where
  pub some : 0 < H.word_bytes
  pub whole : (l : ℕ) → l + length (padding H l) ≡ block_bytes H * ((l + H.length_bytes) / block_bytes H + 1)
  pub rest : length (padding H (block_bytes H + digest_bytes H)) ≡ (16 - chain_words H) * H.word_bytes
  pub short : chain_words H ≤ 16

-- a compression makes a chain
abbrev pub Chains : Hash → Type 0
Chains H = (h B : List ℕ) → length h ≡ chain_words H → Chained H (H.compress h B)

-- a key block, of a key in words, with the byte b in every byte
abbrev pub keyed_words : Hash → ℕ → List ℕ → List ℕ
keyed_words H b key = each bit_xor key (replicate 16 (every_byte H b))

-- HMAC's words: the message's blocks after the inner key block, then the digest block after the outer
abbrev last_of : Hash → List ℕ → List ℕ → List ℕ → List ℕ
last_of H text inner outer =
    let W = ending H (block_bytes H) text in
    H.compress (H.compress H.start outer) (blocks H (length W / 16) W (H.compress H.start inner) ++ digest_padding H)

unfoldable pub hmac_of : Hash → List ℕ → List ℕ → List ℕ
hmac_of H key text = last_of H text (keyed_words H 0x36 key) (keyed_words H 0x5c key)

module _ (H : Hash) (proper : Proper H) where
  abbrev B : ℕ
  B = block_bytes H

  abbrev size : ℕ
  size = H.word_bytes

  a_block : 0 < B
  a_block = omega (arith, proper.some)

  -- how many blocks the text makes after a block, with its padding
  abbrev blocks_of : List ℕ → ℕ
  blocks_of text = (length text + H.length_bytes) / B + 1

  -- a text after m whole blocks
  module _ (m before : ℕ) (after : before ≡ m * B) (text : List ℕ) where
    pub ended_length : length (ended H before text) ≡ B * blocks_of text
    unfolding ended
    ended_length =
        let l = length text in
        let q = (l + H.length_bytes) / B in
        let more : (before + l + H.length_bytes) / B ≡ m + q =
        ap (λ t. t / B) (omega (arith, after ∙ mul_comm m B)) ∙ mul-add-div a_block m (l + H.length_bytes) in
        let all : before + l + length (padding H (before + l)) ≡ B * (m + q + 1) =
        proper.whole (before + l) ∙ ap (λ t. B * (t + 1)) more in
        let parts : B * (m + q + 1) ≡ B * m + B * (q + 1) = ap (λ t. B * t) (omega arith) ∙ mul-add B m (q + 1) in
        length-append text (padding H (before + l)) ∙ omega (arith, all, parts, after ∙ mul_comm m B)

    pub ending_length : length (ending H before text) ≡ 16 * blocks_of text
    unfolding ending
    ending_length =
        length_words size (length (ended H before text) / size) (ended H before text)
        ∙ ap (λ t. t / size) (ended_length ∙ regroup (blocks_of text))
        ∙ mul-div_right (16 * blocks_of text) proper.some
      where
        regroup : (q : ℕ) → 16 * size * q ≡ size * (16 * q)
        regroup q = ap (λ t. t * q) (mul_comm 16 size) ∙ mul_assoc size 16 q

    pub ending_blocks : length (ending H before text) / 16 ≡ blocks_of text
    ending_blocks = ap (λ t. t / 16) ending_length ∙ mul-div_right (blocks_of text) (lit< tt)

  pub ending_words : (before : ℕ) (text : List ℕ) → Words 8 text → Words (8 * size) (ending H before text)
  unfolding ending ended
  ending_words before text bytes =
      bytes_are_words size _ (text ++ padding H (before + length text))
      (words_join 8 text (padding H (before + length text)) bytes (padding_is_bytes H (before + length text)))

  pub one_block : B ≡ 1 * B
  one_block = omega arith

  -- ---- chains
  blocks_chain : Chains H → (m : ℕ) (W h : List ℕ) → Chained H h → Chained H (blocks H m W h)
  unfolding blocks
  blocks_chain chains zero W h c = c
  blocks_chain chains (suc m) W h c = blocks_chain chains m (drop 16 W) _ (chains h (take 16 W) c.0)

  blocks_append : (m p : ℕ) (W h : List ℕ) → blocks H (m + p) W h ≡ blocks H p (drop (m * 16) W) (blocks H m W h)
  unfolding blocks
  blocks_append zero p W h = rw zero-add
  blocks_append (suc m) p W h =
      let place : 16 + m * 16 ≡ suc m * 16 = omega (arith, suc-mul m 16) in
      rw (suc-add m p)
      (blocks_append m p (drop 16 W) (H.compress h (take 16 W))
      ∙ ap (λ t. blocks H p t (blocks H m (drop 16 W) (H.compress h (take 16 W))))
      (drop-drop (m * 16) 16 W ∙ ap (λ t. drop t W) place))

  blocks_front : (m : ℕ) (x y h : List ℕ) → m * 16 ≤ length x → blocks H m (x ++ y) h ≡ blocks H m x h
  unfolding blocks
  blocks_front zero x y h room = refl
  blocks_front (suc m) x y h room =
      let one : 16 ≤ length x = omega (arith, suc-mul m 16) in
      let rest : m * 16 ≤ length (drop 16 x) = rw (length-drop 16 x) (omega (arith, suc-mul m 16)) in
      rw (take-append-le 16 x y one, drop-append-le 16 x y one) (blocks_front m (drop 16 x) y _ rest)

  pub blocks_joined : (m p : ℕ) (x y h : List ℕ) → length x ≡ m * 16 → blocks H (m + p) (x ++ y) h
      ≡ blocks H p y (blocks H m x h)
  blocks_joined m p x y h l =
      blocks_append m p (x ++ y) h
      ∙ ap₂ (λ t u. blocks H p t u) (drop_at x y (m * 16) l) (blocks_front m x y h (omega arith))

  blocks_next : (m : ℕ) (W h : List ℕ) → blocks H (suc m) W h ≡ blocks H m (drop 16 W) (H.compress h (take 16 W))
  unfolding blocks
  blocks_next m W h = refl

  blocks_one : (W h : List ℕ) → length W ≡ 16 → blocks H 1 W h ≡ H.compress h W
  unfolding blocks
  blocks_one W h l = ap (H.compress h) (take_all 16 W (omega arith))

  -- ---- whole blocks and more: the words of the blocks, then the rest with its padding
  pub ending_front : (m before : ℕ) (x y : List ℕ) → length x ≡ m * B
      → ending H before (x ++ y) ≡ words_of size (m * 16) x ++ ending H (before + m * B) y
  unfolding ending ended
  ending_front m before x y front =
      let r = y ++ padding H (before + m * B + length y) in
      let counted : before + length (x ++ y) ≡ before + m * B + length y = omega (arith, length-append x y, front) in
      let whole : x ++ y ++ padding H (before + length (x ++ y)) ≡ x ++ r =
      append_assoc x y _ ∙ ap (λ t. x ++ (y ++ padding H t)) counted in
      let sized : m * B ≡ m * 16 * size = sym (mul_assoc m 16 size) in
      let many : length (x ++ r) / size ≡ m * 16 + length r / size =
      ap (λ t. t / size) (length-append x r ∙ ap (λ t. t + length r) (front ∙ sized ∙ mul_comm (m * 16) size))
      ∙ mul-add-div proper.some (m * 16) (length r) in
      rw (whole, many) (words_append size (m * 16) (length r / size) x r (front ∙ sized))

  module _ (x y : List ℕ) (block : length x ≡ B) where
    front_words : ending H 0 (x ++ y) ≡ words_of size 16 x ++ ending H B y
    front_words =
        ending_front 1 0 x y (block ∙ one_block)
        ∙ ap (λ t. words_of size 16 x ++ ending H t y) (zero-add (1 * B) ∙ sym one_block)

    pub digest_front : (W : List ℕ) → W ≡ ending H B y
        → digest H (x ++ y) ≡ all_bytes size (blocks H (length W / 16) W (H.compress H.start (words_of size 16 x)))
    unfolding digest
    digest_front W e =
        let first = words_of size 16 x in
        let sixteen : length first ≡ 16 = length_words size 16 x in
        let many : length (first ++ W) / 16 ≡ suc (length W / 16) = omega (arith, length-append first W) in
        rw (front_words, ← e, many, blocks_next, take_at first W 16 sixteen, drop_at first W 16 sixteen)

  -- ---- after a block and a digest, one block more
  module _ (D : List ℕ) (chain : Chained H D) where
    last_words : ending H B (all_bytes size D) ≡ D ++ digest_padding H
    unfolding ending ended
    last_words =
        let c = chain_words H in
        let y = all_bytes size D in
        let bytes : length y ≡ c * size = length_all_bytes size D ∙ ap (λ t. t * size) chain.0 in
        let pad = padding H (B + c * size) in
        let long : length (y ++ pad) ≡ size * 16 =
        length-append y pad ∙ omega (arith, bytes, proper.rest, parts c (16 - c) (omega (arith, proper.short))) in
        let many : length (y ++ pad) / size ≡ c + (16 - c) =
        ap (λ t. t / size) long ∙ mul-div_right 16 proper.some ∙ omega (arith, proper.short) in
        let back = rw chain.0 at (words_back size D chain.1) in
        rw (bytes, many) (words_append size c (16 - c) y pad bytes ∙ ap (λ t. t ++ digest_padding H) back)
      where
        parts : (a b : ℕ) → a + b ≡ 16 → a * size + b * size ≡ size * 16
        parts a b e = sym (add-mul a b size) ∙ ap (λ t. t * size) e ∙ mul_comm 16 size

    pub digest_last : (x : List ℕ) → length x ≡ B
        → digest H (x ++ all_bytes size D) ≡ all_bytes size
        (H.compress (H.compress H.start (words_of size 16 x)) (D ++ digest_padding H))
    digest_last x block =
        let W = D ++ digest_padding H in
        let sixteen : length W ≡ 16 =
        length-append D (digest_padding H)
        ∙ omega (arith, chain.0, proper.short, length_words size (16 - chain_words H) (padding H (B + digest_bytes H)))
        in
        digest_front x (all_bytes size D) block W (sym last_words)
        ∙ rw (sixteen, blocks_one W (H.compress H.start (words_of size 16 x)) sixteen)

  module _ (chains : Chains H) where
    -- the chain of a text, from the start
    pub digest_chain : (text : List ℕ) → (let W = ending H 0 text in Chained H (blocks H (length W / 16) W H.start))
    unfolding blocks
    digest_chain text =
        let q = (length text + H.length_bytes) / B in
        rw (ending_blocks 0 0 (sym (zero-mul B)) text) (once q (ending H 0 text))
      where
        once : (q : ℕ) (W : List ℕ) → Chained H (blocks H (q + 1) W H.start)
        once q W = rw (add-one q) (blocks_chain chains q (drop 16 W) _ (chains H.start (take 16 W) refl))

  module _ (chains : Chains H) (key : List ℕ) (bytes : Words 8 key) where
    -- the key, or its digest
    abbrev short : List ℕ
    short = choose (leb (length key) B) key (digest H key)

    short_length : length short ≤ B
    unfolding digest
    short_length = go (leb (length key) B) refl
      where
        go : (t : Bool) → leb (length key) B ≡ t → length (choose t key (digest H key)) ≤ B
        go true e = leb-true (length key) B e
        go false e =
            rw (length_all_bytes size (blocks H _ (ending H 0 key) H.start), (digest_chain chains key).0)
            (mul-le-mul_right size proper.short)

    short_bytes : Words 8 short
    unfolding digest
    short_bytes = go (leb (length key) B)
      where
        go : (t : Bool) → Words 8 (choose t key (digest H key))
        go true = bytes
        go false = all_bytes_are_bytes size _

    key_length : length (key_block H key) ≡ B
    unfolding key_block
    key_length =
        length-append short (replicate (B - length short) 0)
        ∙ rw (length-replicate {A = ℕ} (B - length short) 0) (omega (arith, short_length))

    pub key_bytes : Words 8 (key_block H key)
    unfolding key_block
    key_bytes = words_join 8 short (replicate (B - length short) 0) short_bytes (words_zeros 8 (B - length short))

    -- over the key's words it is the standard's HMAC
    pub hmac_of_is : (text : List ℕ) → all_bytes size (hmac_of H (words_of size 16 (key_block H key)) text)
        ≡ hmac H key text
    unfolding hmac_of hmac
    hmac_of_is text =
        let b = key_block H key in
        let W = ending H B text in
        let x = map (bit_xor 0x36) b in
        let y = map (bit_xor 0x5c) b in
        let first = H.compress H.start (words_of size 16 x) in
        let chain = blocks_chain chains (length W / 16) W first (chains H.start (words_of size 16 x) refl) in
        sym (ap₂ (λ i o. all_bytes size (last_of H text i o)) (marks 0x36 (lit< tt)) (marks 0x5c (lit< tt)))
        ∙ sym (digest_last (blocks H (length W / 16) W first) chain y (xored 0x5c))
        ∙ ap (λ t. digest H (y ++ t)) (sym (digest_front x text (xored 0x36) W refl))
      where
        xored : (v : ℕ) → length (map (bit_xor v) (key_block H key)) ≡ B
        xored v = length-map (key_block H key) (bit_xor v) ∙ key_length

        marks : (v : ℕ) → v < 256
            → words_of size 16 (map (bit_xor v) (key_block H key))
            ≡ keyed_words H v (words_of size 16 (key_block H key))
        marks v h =
            let b = key_block H key in
            let same : List ℕ = replicate B v in
            let long : length same ≡ length b = length-replicate {A = ℕ} B v ∙ sym key_length in
            ap (words_of size 16) (map_each v b ∙ ap (λ l. each bit_xor b (replicate l v)) key_length)
            ∙ words_xor size 16 b same key_bytes (bytes_alike v B h) long (omega (arith, key_length))
            ∙ ap (each bit_xor (words_of size 16 b)) (words_alike v size 16)

  -- of a text in whole blocks and a rest: the blocks first, and then the rest with its padding
  pub last_blocks : (m : ℕ) (x y h : List ℕ) → length x ≡ m * B
      → (let W = ending H B (x ++ y) in let rest' = ending H ((m + 1) * B) y in
      blocks H (length W / 16) W h ≡ blocks H (length rest' / 16) rest' (blocks H m (words_of size (m * 16) x) h))
  last_blocks m x y h front =
      let X = words_of size (m * 16) x in
      let Y = ending H ((m + 1) * B) y in
      let after : B + m * B ≡ (m + 1) * B = omega (arith, add-mul m 1 B) in
      let parts : ending H B (x ++ y) ≡ X ++ Y = ending_front m B x y front ∙ ap (λ t. X ++ ending H t y) after in
      let sixteen : length X ≡ m * 16 = length_words size (m * 16) x in
      let many : length (X ++ Y) / 16 ≡ m + length Y / 16 = omega (arith, length-append X Y) in
      rw (parts, many) (blocks_joined m (length Y / 16) X Y h sixteen)
