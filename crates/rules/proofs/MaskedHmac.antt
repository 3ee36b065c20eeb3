-- Masked HMAC over any hash in shares, once for all that is said of it: `Good x X` is what is kept of the shares x of
-- the word X. Of any Good that the hash keeps, HMAC keeps it, draws so many words, and no other word has a say.
use Prim.Native.Nat.{ℕ, zero, suc, ◌+◌, ◌-◌, ◌*◌, ◌/◌, ◌^◌, ◌<◌}
use mathlib.Core.Path.{◌≡◌, refl, sym, ap, subst, ◌∙◌}
use mathlib.Core.List.{List, [], ◌∷◌, ◌++◌}
use native.Mathlib.Nat.{suc-mul, zero-mul, add-mul}
use native.Mathlib.Omega.{arith}
use lib.Bits.{bit_xor}
use lib.ListN.{length, get_or, replicate}
use Rattle.rules.specs.Supply.{Rule, split}
use Rattle.rules.specs.Shares.{each}
use Rattle.rules.specs.Hash.{Hash, block_bytes, chain_words, ending, blocks as blocks_of}
use Rattle.rules.specs.Sha1.{public, publics}
use Rattle.rules.specs.Hmac.{Masked, marked, every_byte, blocks, digest_padding, key_step, text_step}
use Rattle.rules.specs.Hmac.{digest_step, hmac_shares}
use Rattle.rules.specs.Counts.{compressions}
use Rattle.rules.proofs.Rule.{give, bind, counted}
use Rattle.rules.proofs.Openings.{each_append}
use Rattle.rules.proofs.Bytes.{length_words, every_lt, bytes_are_words, padding_is_bytes}
use Rattle.rules.proofs.Goods.{Goods, none, more, join, goods_front, goods_rest}
use Rattle.rules.proofs.Hashes.{Proper, keyed_words, one_block, ending_length, ending_blocks, hmac_of}

-- what a hash in shares keeps; Fits says which public values may enter
pub record Keeps (M : Masked) (n : ℕ) (Fits : ℕ → Type 0) (Good : List ℕ → ℕ → Type 0) : Type 0 where
  pub size : (x : List ℕ) (X : ℕ) → Good x X → length x ≡ n
  pub compresses : {h C block B : List ℕ} → Goods Good (chain_words M.standard) h C → Goods Good 16 block B
      → Rule (M.draws n) (λ z. Goods Good (chain_words M.standard) z (M.standard.compress C B)) (M.compress n h block)
  pub shows : (v : ℕ) → Fits v → Good (public n v) v
  pub xors : {x y : List ℕ} {X Y : ℕ} → Good x X → Good y Y → Good (each bit_xor x y) (bit_xor X Y)
  pub splits_one : (v : ℕ) → Fits v → Rule (n - 1) (λ x. Good x v) (split n v)
  pub starts : (i : ℕ) → i < chain_words M.standard → Fits (get_or M.standard.start i 0)
  pub fits : (v : ℕ) → v < 2 ^ (8 * M.standard.word_bytes) → Fits v

module _ {M : Masked} {n : ℕ} {Fits : ℕ → Type 0} {Good : List ℕ → ℕ → Type 0} (keeps : Keeps M n Fits Good) where
  abbrev H : Hash
  H = M.standard

  abbrev c : ℕ
  c = chain_words H

  -- ---- public words
  pub publics_of : (m : ℕ) (s : List ℕ) → length s ≡ m → ((i : ℕ) → i < m → Fits (get_or s i 0))
      → Goods Good m (publics n s) s
  unfolding publics
  publics_of zero [] l h = none
  publics_of zero (a ∷ s) l h = absurd (omega arith)
  publics_of (suc m) [] l h = absurd (omega arith)
  publics_of (suc m) (a ∷ s) l h =
      more (keeps.shows a (h 0 (omega arith))) (publics_of m s (omega arith) (λ i b. h (suc i) (omega arith)))

  -- XORed into words in shares
  pub marked_of : {m : ℕ} {z Z cs : List ℕ} → Goods Good m z Z → Goods Good m (publics n cs) cs
      → Goods Good m (marked n cs z) (each bit_xor Z cs)
  unfolding marked each
  marked_of = xored
    where
      xored : {m : ℕ} {z Z y Y : List ℕ} → Goods Good m z Z → Goods Good m y Y
          → Goods Good m (each bit_xor z y) (each bit_xor Z Y)
      xored none none = none
      xored (more {m} {X} {x} {s} g gs) (more {X = Y} {x = y} {s = t} h hs) =
          rw (each_append bit_xor x y s t (keeps.size y Y h ∙ sym (keeps.size x X g)))
          (more (keeps.xors g h) (xored gs hs))

  -- ---- blocks in shares
  pub blocks_rule : (m : ℕ) {W S h C : List ℕ} → Goods Good (m * 16) W S → Goods Good c h C
      → Rule (m * M.draws n) (λ z. Goods Good c z (blocks_of H m S C)) (blocks M n m W h)
  unfolding blocks blocks_of
  blocks_rule zero {W} {S} {h} {C} gw g = counted (give (λ z. Goods Good c z C) h g) (sym (zero-mul (M.draws n)))
  blocks_rule (suc m) gw g =
      let block = goods_front keeps.size 16 (omega arith) gw in
      let rest = goods_rest keeps.size {q = m * 16} 16 (omega arith) gw in
      counted (bind (keeps.compresses g block) (λ z gz. blocks_rule m rest gz)) (omega (arith, suc-mul m (M.draws n)))

  -- ---- HMAC
  module _ (proper : Proper H) (some : 0 < n) where
    fits_digest : (i : ℕ) → Fits (get_or (digest_padding H) i 0)
    fits_digest i = keeps.fits _ (bytes_are_words H.word_bytes (16 - c) _ (padding_is_bytes H _) i)

    fits_every : (b : ℕ) → b < 256 → Fits (every_byte H b)
    fits_every b h = keeps.fits _ (every_lt b H.word_bytes h)

    pub key_rule : {key KEY : List ℕ} (b : ℕ) → b < 256 → Goods Good 16 key KEY
        → Rule (M.draws n) (λ z. Goods Good c z (H.compress H.start (keyed_words H b KEY)))
        (key_step M n b key)
    unfolding publics
    key_rule b h g =
        keeps.compresses (publics_of c H.start refl keeps.starts) (marked_of g (every 16))
      where
        every : (m : ℕ) → Goods Good m (publics n (replicate m (every_byte H b))) (replicate m (every_byte H b))
        every zero = none
        every (suc m) = more (keeps.shows _ (fits_every b h)) (every m)

    pub text_rule : {h C : List ℕ} (m before : ℕ) → before ≡ m * block_bytes H → (text : List ℕ)
        → ((i : ℕ) → Fits (get_or (ending H before text) i 0)) → Goods Good c h C
        → Rule (((length text + H.length_bytes) / block_bytes H + 1) * M.draws n)
        (λ z. Goods Good c z (let W = ending H before text in blocks_of H (length W / 16) W C))
        (text_step M n before text h)
    text_rule m before after text u g =
        let W = ending H before text in
        let shown = publics_of (length W / 16 * 16) W (omega (arith, ending_length H proper m before after text))
        (λ i b. u i) in
        counted (blocks_rule (length W / 16) shown g)
        (ap (λ t. t * M.draws n) (ending_blocks H proper m before after text))

    pub digest_rule : {i I o O : List ℕ} → Goods Good c i I → Goods Good c o O
        → Rule (M.draws n) (λ z. Goods Good c z (H.compress O (I ++ digest_padding H))) (digest_step M n i o)
    digest_rule gi go =
        let last = publics_of (16 - c) (digest_padding H) (length_words H.word_bytes (16 - c) _)
        (λ i b. fits_digest i) in
        keeps.compresses go (sixteen (join gi last))
      where
        sixteen : {s S : List ℕ} → Goods Good (c + (16 - c)) s S → Goods Good 16 s S
        sixteen {s} {S} = subst (λ m. Goods Good m s S) (omega (arith, proper.short))

    pub hmac_rule : {key KEY : List ℕ} (text : List ℕ) → ((i : ℕ) → Fits (get_or (ending H (block_bytes H) text) i 0))
        → Goods Good 16 key KEY
        → Rule (compressions H (length text) * M.draws n) (λ z. Goods Good c z (hmac_of H KEY text))
        (hmac_shares M n key text)
    unfolding hmac_shares hmac_of
    hmac_rule text u g =
        let d = M.draws n in
        let q = (length text + H.length_bytes) / block_bytes H in
        counted
        (bind (key_rule 0x36 (omega arith) g) (λ i gi.
        bind (text_rule 1 (block_bytes H) (one_block H proper) text u gi) (λ e ge.
        bind (key_rule 0x5c (omega arith) g) (λ o go.
        digest_rule ge go))))
        (omega (arith, add-mul q 1 d, add-mul q 4 d))
