-- The steps of HMAC, each made from its parts, and how many words they draw.
use Prim.Native.Nat.{ℕ, ◌+◌, ◌-◌, ◌*◌, ◌/◌, ◌≤◌, ◌<◌}
use mathlib.Core.Path.{◌≡◌, refl, sym, ap, ◌∙◌}
use mathlib.Core.List.{List, [], ◌∷◌, ◌++◌, append-nil}
use native.Mathlib.Omega.{arith}
use native.Mathlib.Nat.{add-mul, mul_comm, mul_assoc, sub-zero}
use lib.ListN.{length, take, drop, replicate, length-drop, drop_of_length-le}
use lib.Seq.{length-take-le, take_at, drop_at}
use Rattle.rules.specs.declared.Algorithm.{Algorithm}
use Rattle.rules.specs.declared.Algorithm.TheVariants.{Sha1, Sha256}
use Rattle.rules.specs.Refusals.{code_of}
use Rattle.rules.specs.Hash.{Hash, chain_words, bytes_of, number_of, words_of, zeros, padding, ending}
use Rattle.rules.specs.Standard.{SHA1}
use Rattle.rules.specs.Sha1.{publics}
use Rattle.rules.specs.Hmac.{Masked, used, marked, blocks, digest_padding, tag_of, hmac_shares, hmac_tag}
use Rattle.rules.specs.Counts.{compressions}
use Rattle.rules.proofs.Loops.{Run}
use Rattle.rules.proofs.Hashes.{ending_blocks}
use Rattle.rules.proofs.Tags.{hash_proper}
use Rattle.hash.specs.Hash.{hash, standard}
use Rattle.hash.proofs.Publics.{publics_part}
use Rattle.hash.proofs.Chains.{lent}
use Rattle.hash.proofs.Blocks.{Left, blocks_next}
use Rattle.padding.specs.Whole.{blocks_in}
use Rattle.padding.proofs.Padded.{any_ending}
use Rattle.hmac.specs.Halves.{inner_hash, outer_hash}

-- ---- a constant in share 1 of each word of a copy
pub key_block_made : (n c : ℕ) (key z y : List ℕ) → z ≡ key → y ≡ marked n (replicate 16 c) z
    → y ≡ marked n (replicate 16 c) key
key_block_made n c key z y e f = rw (← e) f

pub public_made : (n : ℕ) (values v z : List ℕ) → v ≡ values → z ≡ publics n v → z ≡ publics n values
public_made n values v z e f = rw (← e) f

-- ---- one compression, of a block that was made so
module _ (code : Algorithm) (n : ℕ) (ws : List ℕ) (at : ℕ) where
  abbrev M : Masked
  M = hash code

  abbrev H : Hash
  H = standard code

  pub key_made : (c : ℕ) (key s : List ℕ) {b : List ℕ} {o : Run} → used H n s ≡ publics n H.start
      → b ≡ marked n (replicate 16 c) key → M.compress n (used H n s) b ws at ≡ o
      → M.compress n (publics n H.start) (marked n (replicate 16 c) key) ws at ≡ o
  key_made c key s e f g = rw (← f, ← e) g

  pub digest_step_made : (end : ℕ) (h inner x : List ℕ) {b : List ℕ} {o : Run} → end ≡ chain_words H * n
      → b ≡ take (end - 0) inner ++ x → M.compress n h b ws at ≡ o → M.compress n h (used H n inner ++ x) ws at ≡ o
  digest_step_made end h inner x is e f = rw (← lent code n end is inner, ← e) f

  pub digest_most : (end l : ℕ) → end ≡ chain_words H * n → end ≤ 8 * n → l ≡ chain_words H * n → l ≤ 8 * n
  digest_most end l is most e = rw (e, ← is) most

  -- two steps, one after the other
  pub inner_made : (key text : List ℕ) {i : List ℕ} {p : ℕ} {o : Run}
      → M.compress n (publics n H.start) (marked n (replicate 16 0x36363636) key) ws at ≡ (i, p)
      → blocks M n (blocks_in (length text)) (publics n (ending H 64 text)) i ws p ≡ o
      → inner_hash M n key text ws at ≡ o
  unfolding inner_hash number_of
  inner_made key text a b = rw (ending_blocks H (hash_proper 32 (code_of code)) 1 64 refl text, a, b)

  pub outer_made : (key d : List ℕ) {g : List ℕ} {p : ℕ} {o : Run}
      → M.compress n (publics n H.start) (marked n (replicate 16 0x5c5c5c5c) key) ws at ≡ (g, p)
      → M.compress n g (d ++ publics n (digest_padding H)) ws p ≡ o → outer_hash M n key d ws at ≡ o
  unfolding outer_hash number_of
  outer_made key d a b = rw (a, b)

  pub hmac_made : (key text : List ℕ) {d : List ℕ} {p : ℕ} {o : Run} → inner_hash M n key text ws at ≡ (d, p)
      → outer_hash M n key d ws p ≡ o → hmac_shares M n key text ws at ≡ o
  unfolding hmac_shares inner_hash outer_hash
  hmac_made key text a b = rw (a, b)

-- ---- one block more of a text
pub text_next : (code : Algorithm) (n : ℕ) (ws : List ℕ) (before : ℕ) (text : List ℕ) (count : ℕ) (e : Run) (j p q : ℕ)
    (b g g1 : List ℕ) → 0 < n → j < count → (hash code).compress n g b ws p ≡ (g1, q)
    → b ≡ publics n (take 16 (drop (16 * j) (ending (SHA1 32) before text)))
    → (let W = ending (standard code) before text in
    Left code n ws (publics n W) count j g p ≡ e → Left code n ws (publics n W) count (j + 1) g1 q ≡ e)
text_next code n ws before text count e j p q b g g1 some l f made =
    let W = ending (standard code) before text in
    let place : 16 * j * n ≡ j * (16 * n) = ap (λ t. t * n) (mul_comm 16 j) ∙ mul_assoc j 16 n in
    let block : publics n (take 16 (drop (16 * j) W)) ≡ take (16 * n) (drop (j * (16 * n)) (publics n W)) =
    sym (ap (λ t. take (16 * n) (drop t (publics n W))) (sym place) ∙ publics_part n some 16 (16 * j) W) in
    let its : b ≡ publics n (take 16 (drop (16 * j) W)) =
    made ∙ ap (λ t. publics n (take 16 (drop (16 * j) t))) (any_ending (code_of code) before text) in
    blocks_next code n ws (publics n W) count e j p q b g g1 l f (its ∙ block)

-- ---- the digest block: the inner digest d, stored in front of anything, and the padding x after it
pub digest_made : (n : ℕ) (inner d x z p : List ℕ) → length inner ≤ 8 * n → length z ≡ 16 * n → d ≡ inner → x ≡ p
    → (let m = length inner in
    let y = d ++ drop (m - 0) z in
    take m y ++ (x ++ drop (length z - m) (drop m y)) ≡ inner ++ p)
digest_made n inner d x z p few size e f =
    let m = length inner in
    let rest = drop m z in
    let none : drop (length z - m) rest ≡ [] =
    drop_of_length-le rest {i = length z - m} (rw (length-drop m z) (omega arith)) in
    rw (e, sub-zero m, take_at inner rest m refl, drop_at inner rest m refl, none, append-nil x, f)

-- its padding, by the code
pub sha1_padding : (code : Algorithm) (n : ℕ) (z : List ℕ) → code ≡ Sha1
    → z ≡ publics n (0x80000000 ∷ 0 ∷ 0 ∷ 0 ∷ 0 ∷ 0 ∷ 0 ∷ 0 ∷ 0 ∷ 0 ∷ 672 ∷ []) → z
    ≡ publics n (digest_padding (standard code))
unfolding words_of number_of padding zeros bytes_of
sha1_padding code n z is e = rw is e

pub sha256_padding : (code : Algorithm) (n : ℕ) (z : List ℕ) → code ≡ Sha256
    → z ≡ publics n (0x80000000 ∷ 0 ∷ 0 ∷ 0 ∷ 0 ∷ 0 ∷ 0 ∷ 768 ∷ []) → z ≡ publics n (digest_padding (standard code))
unfolding words_of number_of padding zeros bytes_of
sha256_padding code n z is e = rw is e

pub padding_part : (code : Algorithm) (n : ℕ) (inner d z : List ℕ) → length inner ≡ chain_words (standard code) * n
    → length z ≡ 16 * n
    → d ≡ inner → (let m = length inner in
    length (take (length z - m) (drop m (d ++ drop (m - 0) z))) ≡ (16 - chain_words (standard code)) * n)
padding_part code n inner d z is size e =
    let m = length inner in
    let w = chain_words (standard code) in
    let rest = drop m z in
    let left : length rest ≡ length z - m = length-drop m z in
    let parts : 16 * n ≡ w * n + (16 - w) * n =
    ap (λ t. t * n) (omega (arith, (hash_proper 32 (code_of code)).short)) ∙ add-mul w (16 - w) n in
    rw (e, sub-zero m, drop_at inner rest m refl, length-take-le (length z - m) rest (omega arith)) (omega arith)

-- ---- how many words HMAC draws, at d words a compression, and that they are there for both of its halves
module _ (l d at : ℕ) where
  abbrev all : ℕ
  all = at + compressions (SHA1 32) l * d

  pub hmac_count : (p q : ℕ) → p ≡ at + d + blocks_in l * d → q ≡ p + d + d → q ≡ all
  hmac_count p q a b = omega (arith, add-mul ((l + 8) / 64) 1 d, add-mul ((l + 8) / 64) 4 d)

  pub inner_room : (have : ℕ) → all ≤ have → at + d + blocks_in l * d ≤ have
  inner_room have h = omega (arith, add-mul ((l + 8) / 64) 1 d, add-mul ((l + 8) / 64) 4 d)

  pub outer_room : (have p : ℕ) → all ≤ have → p ≡ at + d + blocks_in l * d → p + d + d ≤ have
  outer_room have p h a = omega (arith, hmac_count p (p + d + d) a refl)

pub tag_made : (code : Algorithm) (n : ℕ) (key text ws t : List ℕ) (at p : ℕ) {s : List ℕ}
    → hmac_shares (hash code) n key text ws at ≡ (s, p) → t ≡ tag_of (standard code) n s
    → hmac_tag (hash code) n key text ws at ≡ (t, p)
unfolding hmac_tag
tag_made code n key text ws t at p e f = rw (e, f)
