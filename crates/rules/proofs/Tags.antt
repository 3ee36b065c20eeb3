-- A split key opens to the key block, and the tag of a masked HMAC is the standard's: over any hash in shares. And
-- what is asked of a hash holds of both.
use Prim.Native.Nat.{ℕ, zero, suc, ◌+◌, ◌*◌, ◌-◌, ◌/◌, ◌%◌, ◌^◌, ◌≤◌, ◌<◌}
use mathlib.Core.Path.{◌≡◌, refl, sym, ap, ◌∙◌}
use mathlib.Core.List.{List, [], ◌∷◌}
use native.Mathlib.Omega.{arith}
use lib.ListN.{length, get_or, replicate, length-append, length-replicate}
use lib.Pow.{pow_pos}
use Rattle.words.proofs.Words.{plus_lt}
use Rattle.rules.specs.Supply.{Words}
use Rattle.rules.specs.Hash.{Hash, block_bytes, bytes_of, words_of, all_bytes, zeros, padding, filled, key_block, hmac}
use Rattle.rules.specs.Hash.{chain_words, digest_bytes, schedule, rounds, sums}
use Rattle.rules.specs.Standard.{following, round, compress}
use Rattle.rules.specs.Standard256.{following as following256, round as round256, compress as compress256}
use Rattle.rules.specs.Counts.{standard_of}
use Rattle.rules.specs.Sha1.{open_words}
use Rattle.rules.specs.Hmac.{Masked, key_words, split_key, hmac_tag}
use Rattle.rules.proofs.Bytes.{words_join, words_zeros, bytes_are_words, length_bytes_lem}
use Rattle.rules.proofs.Goods.{goods_open}
use Rattle.rules.proofs.Hashes.{Chains, Proper, key_bytes, ending_words, hmac_of, hmac_of_is}
use Rattle.rules.proofs.MaskedHmac.{Keeps, hmac_rule}
use Rattle.rules.proofs.Keys.{shared_is, split_key_rule}
use Rattle.rules.proofs.Opens.{Masks, masks}

module _ (M : Masked) (n : ℕ) (some : 0 < n) (proper : Proper M.standard) (chains : Chains M.standard) where
  abbrev H : Hash
  H = M.standard

  abbrev k : ℕ
  k = 8 * H.word_bytes

  abbrev Opens : Type 0
  Opens = Keeps M n (λ v. v < 2 ^ k) (Masks k n)

  pub split_key_opens : Opens → (key ws : List ℕ) (at : ℕ) → Words 8 key
      → open_words n 16 (split_key M n key ws at).0 ≡ words_of H.word_bytes 16 (key_block H key)
  split_key_opens keeps key ws at keys =
      let fits : (m i : ℕ) → get_or (key_words H m key) i 0 < 2 ^ k = λ m.
      let left = m * H.word_bytes - length key in
      bytes_are_words H.word_bytes m (filled (m * H.word_bytes) key)
      (words_join 8 key (replicate left 0) keys (words_zeros 8 left)) in
      goods_open (λ x X g. (g.0, g.1)) ((split_key_rule keeps proper some key fits).makes ws at)
      ∙ shared_is H proper key chains keys

  -- the tag, from shares that open to the key block
  pub hmac_tag_is : Opens
      → (key text shares ws : List ℕ) (at : ℕ) → Words 8 key → Words 8 text → length shares ≡ 16 * n
      → open_words n 16 shares ≡ words_of H.word_bytes 16 (key_block H key)
      → (hmac_tag M n shares text ws at).0 ≡ hmac H key text
  unfolding hmac_tag
  hmac_tag_is keeps key text shares ws at keys texts size shared =
      let small : Words k (open_words n 16 shares) =
      rw shared (bytes_are_words H.word_bytes 16 (key_block H key) (key_bytes H proper chains key keys)) in
      let rule = hmac_rule keeps proper some text (ending_words H proper (block_bytes H) text texts)
      (masks k n 16 shares size small) in
      ap (all_bytes H.word_bytes) (goods_open (λ x X g. (g.0, g.1)) (rule.makes ws at)
      ∙ ap (λ t. hmac_of H t text) shared)
      ∙ hmac_of_is H proper chains key keys text

-- ---- both hashes are proper
length_sums : (k : ℕ) (h s : List ℕ) → length s ≡ length h → length (sums k h s) ≡ length h
unfolding sums
length_sums k [] s e = refl
length_sums k (x ∷ h) [] e = absurd (omega arith)
length_sums k (x ∷ h) (y ∷ s) e = ap suc (length_sums k h s (omega arith))

words_sums : (k : ℕ) (h s : List ℕ) → Words k (sums k h s)
unfolding sums
words_sums k [] s i = pow_pos k
words_sums k (x ∷ h) [] i = pow_pos k
words_sums k (x ∷ h) (y ∷ s) zero = plus_lt k x y
words_sums k (x ∷ h) (y ∷ s) (suc i) = words_sums k h s i

-- a round of so many words makes as many
module _ {words : ℕ} (round : ℕ → ℕ → List ℕ → List ℕ) (size : (t w : ℕ) (s : List ℕ) → length (round t w s) ≡ words)
  where
    length_rounds : (m t : ℕ) (W s : List ℕ) → length s ≡ words → length (rounds round W m t s) ≡ words
    unfolding rounds
    length_rounds zero t W s h = h
    length_rounds (suc m) t W s h = length_rounds m (t + 1) W _ (size t (get_or W t 0) s)

    chained : (k m : ℕ) (W h : List ℕ) → length h ≡ words
        → (let z = sums k h (rounds round W m 0 h) in (length z ≡ words) × Words k z)
    chained k m W h l =
        let s = rounds round W m 0 h in
        (length_sums k h s (length_rounds m 0 W h l ∙ sym l) ∙ l, words_sums k h s)

pub hash_chains : (code : ℕ) → Chains (standard_of 32 code)
unfolding compress compress256 round round256
hash_chains zero h B l = chained (λ t. round 32 (t / 20)) (λ t w s. refl) 32 80 (schedule (following 32) 64 B) h l
hash_chains (suc code) h B l = chained (round256 32) (λ t w s. refl) 32 64 (schedule (following256 32) 48 B) h l

padded : (k code l : ℕ) → length (padding (standard_of k code) l) ≡ 9 + (119 - l % 64) % 64
unfolding padding zeros
padded k code l =
    let H = standard_of k code in
    ap suc (length-append (replicate (zeros H l) 0) (bytes_of 8 (l * 8)))
    ∙ rw (length-replicate {A = ℕ} (zeros H l) 0, length_bytes_lem 8 (l * 8)) (omega arith)

pub hash_proper : (k code : ℕ) → Proper (standard_of k code)
hash_proper k code =
    record {
      some = omega arith;
      whole = λ l. omega (arith, padded k code l);
      rest = rest code;
      short = short code;
    }
  where
    rest : (code : ℕ) → (let H = standard_of k code in length (padding H (block_bytes H + digest_bytes H))
        ≡ (16 - chain_words H) * 4)
    rest zero = omega (arith, padded k 0 84)
    rest (suc code) = omega (arith, padded k (suc code) 96)

    short : (code : ℕ) → chain_words (standard_of k code) ≤ 16
    short zero = omega arith
    short (suc code) = omega arith
