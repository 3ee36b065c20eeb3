-- A key in shares: what splitting it makes, over any hash in shares. Of any Good that the hash keeps, its shares are
-- Good
-- for the words of RFC 2104's key block.
use Prim.Native.Nat.{ℕ, zero, suc, ◌+◌, ◌-◌, ◌*◌, ◌/◌, ◌≤◌, ◌<◌}
use mathlib.Core.Path.{◌≡◌, refl, sym, ap, ap₂, ◌∙◌, subst}
use mathlib.Core.Bool.{Bool, true, false}
use mathlib.Core.List.{List, [], ◌∷◌, ◌++◌, append_assoc, append-nil}
use native.Mathlib.Nat.{suc-mul, zero-mul, add-mul, mul_comm, mul_assoc, div-lt_iff_lt-mul, mul-div_left, mul-div_right}
use native.Mathlib.Nat.{mod-lt, div-add-mod'}
use native.Mathlib.Omega.{arith}
use lib.Bits.{bit_xor, xor_zero_r}
use lib.Dec.{leb, lit<}
use lib.ListN.{length, get_or, replicate, length-append, length-replicate, replicate-append-replicate}
use lib.Pow.{pow_pos}
use borrow.Author.Tests.{le-leb, lt-leb}
use Rattle.rules.specs.Supply.{Rule, Words}
use Rattle.rules.specs.Numbers.{choose}
use Rattle.rules.specs.Shares.{each}
use Rattle.rules.specs.Hash.{Hash, block_bytes, chain_words, words_of, all_bytes, padding, ended, ending, filled}
use Rattle.rules.specs.Hash.{digest, key_block}
use Rattle.rules.specs.Hash.{blocks as blocks_of}
use Rattle.rules.specs.Sha1.{public}
use Rattle.rules.specs.Hmac.{Masked, splits, marked, key_words, words_for, hash_key, split_key}
use Rattle.rules.specs.Counts.{key_draws}
use Rattle.rules.proofs.Rule.{give, bind, said, counted}
use Rattle.rules.proofs.Openings.{each_append}
use Rattle.rules.proofs.Bytes.{words_join, words_zeros, words_append, words_back, words_xor, words_alike}
use Rattle.rules.proofs.Bytes.{number_zeros, length_words, length_all_bytes, padding_is_bytes}
use Rattle.rules.proofs.Goods.{Goods, none, more, join, how_many, goods_size}
use Rattle.rules.proofs.Hashes.{Proper, Chains, ended_length, ending_length, ending_words, digest_chain}
use Rattle.rules.proofs.MaskedHmac.{Keeps, publics_of, marked_of, blocks_rule}

-- ---- lists filled with zeros
pub length_filled : (r : ℕ) (x : List ℕ) → length x ≤ r → length (filled r x) ≡ r
length_filled r x h =
    length-append x (replicate (r - length x) 0) ∙ rw (length-replicate {A = ℕ} (r - length x) 0) (omega arith)

filled_more : (r t : ℕ) (x : List ℕ) → length x ≤ r → r ≤ t → filled t x ≡ filled r x ++ replicate (t - r) 0
filled_more r t x h l =
    let q : t - length x ≡ (r - length x) + (t - r) = omega arith in
    rw (q, ← replicate-append-replicate {A = ℕ} (r - length x) (t - r) 0)
    (sym (append_assoc x (replicate (r - length x) 0) (replicate (t - r) 0)))

-- words of filled bytes, filled with words
words_filled : (size m t : ℕ) (b : List ℕ) → length b ≤ m * size → m ≤ t
    → filled t (words_of size m (filled (m * size) b)) ≡ words_of size t (filled (t * size) b)
words_filled size m t b h l =
    let front = filled (m * size) b in
    let more = t - m in
    let parts : t * size ≡ m * size + more * size = ap (λ i. i * size) (omega arith) ∙ add-mul m more size in
    let left : t * size - m * size ≡ more * size = omega arith in
    let zero_words : words_of size more (replicate (more * size) 0) ≡ replicate more 0 =
    words_alike 0 size more ∙ ap (replicate more) (number_zeros size size) in
    let split : words_of size (m + more) (front ++ replicate (more * size) 0)
    ≡ words_of size m front ++ replicate more 0 =
    words_append size m more front (replicate (more * size) 0) (length_filled (m * size) b h)
    ∙ ap (λ (z : List ℕ). words_of size m front ++ z) zero_words in
    let all : m + more ≡ t = omega arith in
    rw (length_words size m front)
    (sym (ap (words_of size t) (filled_more (m * size) (t * size) b h (omega (arith, parts)) ∙ rw left)
    ∙ rw all at split))

-- XOR with zeros
pub each_zeros : (x : List ℕ) (r : ℕ) → length x ≡ r
    → (each bit_xor x (replicate r 0) ≡ x) × (each bit_xor (replicate r 0) x ≡ x)
unfolding each
each_zeros [] r h = let q : r ≡ 0 = omega arith in rw q (refl, refl)
each_zeros (a ∷ x) zero h = absurd (omega arith)
each_zeros (a ∷ x) (suc r) h =
    let rest = each_zeros x r (omega arith) in
    (ap₂ (λ b (l : List ℕ). b ∷ l) (xor_zero_r a) rest.0, ap (λ (l : List ℕ). a ∷ l) rest.1)

-- ---- a long key's words and the padding, which has 0 where its bytes stand: the standard's padded key
module _ (H : Hash) (proper : Proper H) (key : List ℕ) where
  abbrev B : ℕ
  B = block_bytes H

  abbrev size : ℕ
  size = H.word_bytes

  abbrev l : ℕ
  l = length key

  abbrev none_of : List ℕ
  none_of = replicate l 0

  abbrev pub pad : List ℕ
  pad = ending H 0 none_of

  abbrev held : List ℕ
  held = key_words H (words_for H l) key

  -- what is hashed, and the key block's words
  abbrev pub hashed_text : List ℕ
  hashed_text = each bit_xor (filled (length pad) held) pad

  abbrev pub hashed_words : List ℕ
  hashed_words = filled 16 (blocks_of H (length pad / 16) hashed_text H.start)

  abbrev pub shared_words : List ℕ
  shared_words = choose (leb l B) (key_words H 16 key) hashed_words

  as_long : length none_of ≡ l
  as_long = length-replicate {A = ℕ} l 0

  pub pad_length : length pad ≡ 16 * ((l + H.length_bytes) / B + 1)
  pad_length = ending_length H proper 0 0 (sym (zero-mul B)) none_of ∙ rw as_long

  pub pad_blocks : length pad / 16 ≡ (l + H.length_bytes) / B + 1
  pad_blocks = ap (λ t. t / 16) pad_length ∙ mul-div_right ((l + H.length_bytes) / B + 1) (lit< tt)

  ended_size : length (ended H 0 none_of) ≡ length pad * size
  ended_size = ended_length H proper 0 0 (sym (zero-mul B)) none_of
      ∙ rw (pad_length, as_long) (regroup ((l + H.length_bytes) / B + 1))
    where
      regroup : (q : ℕ) → 16 * size * q ≡ 16 * q * size
      regroup q = mul_assoc 16 size q ∙ ap (λ t. 16 * t) (mul_comm size q) ∙ sym (mul_assoc 16 q size)

  pads_to : l + length (padding H (0 + l)) ≡ length pad * size
  unfolding ended
  pads_to = sym (length-append none_of _ ∙ rw as_long) ∙ ended_size

  words_hold : l ≤ words_for H l * size
  words_hold =
      let a = l + (size - 1) in
      omega (arith, div-add-mod' a size, mod-lt a proper.some)

  pub words_in : words_for H l ≤ length pad
  words_in =
      let room : l + (size - 1) < (length pad + 1) * size =
      omega (arith, pads_to, proper.some, add-mul (length pad) 1 size) in
      omega (arith, (div-lt_iff_lt-mul proper.some).1 room)

  -- texts of l bytes, with the padding after them
  abbrev after : List ℕ
  after = padding H (0 + l)

  ending_of : (text : List ℕ) → length text ≡ l → ending H 0 text ≡ words_of size (length pad) (text ++ after)
  unfolding ending ended
  ending_of text e =
      let many : (l + length after) / size ≡ length pad = ap (λ t. t / size) pads_to
      ∙ mul-div_left (length pad) proper.some in
      ap (λ t. let p = text ++ padding H (0 + t) in words_of size (length p / size) p) e
      ∙ ap (λ t. words_of size (t / size) (text ++ after)) (length-append text after ∙ ap (λ t. t + length after) e)
      ∙ ap (λ t. words_of size t (text ++ after)) many

  text_is : Words 8 key → hashed_text ≡ ending H 0 key
  text_is bytes =
      let room = length pad * size in
      let left = room - l in
      let x = filled room key in
      let y = none_of ++ after in
      let long : length x ≡ room = length_filled room key (omega (arith, pads_to)) in
      let same : length y ≡ length x = length-append none_of after ∙ omega (arith, as_long, pads_to, long) in
      let xored : each bit_xor x y ≡ key ++ after =
      each_append bit_xor key none_of (replicate left 0) after as_long
      ∙ ap₂ (λ (a b : List ℕ). a ++ b) (each_zeros key l refl).0 (each_zeros after left (omega (arith, pads_to))).1 in
      ap₂ (each bit_xor) (words_filled size (words_for H l) (length pad) key words_hold words_in)
      (ending_of none_of as_long)
      ∙ sym (words_xor size (length pad) x y (words_join 8 key (replicate left 0) bytes (words_zeros 8 left))
      (words_join 8 none_of after (words_zeros 8 l) (padding_is_bytes H (0 + l))) same (omega (arith, long)))
      ∙ ap (words_of size (length pad)) xored
      ∙ sym (ending_of key refl)

  pub shared_is : Chains H → Words 8 key → shared_words ≡ words_of size 16 (key_block H key)
  unfolding key_block digest
  shared_is chains bytes = go (leb l B)
    where
      hashed : hashed_words ≡ words_of size 16 (filled B (digest H key))
      hashed =
          let W = ending H 0 key in
          let D = blocks_of H (length W / 16) W H.start in
          let chain = digest_chain H proper chains key in
          let b = all_bytes size D in
          let c = chain_words H in
          let long : length b ≡ c * size = length_all_bytes size D ∙ ap (λ t. t * size) chain.0 in
          let none_left : c * size - length b ≡ 0 = omega (arith, long) in
          let back : words_of size c (filled (c * size) b) ≡ D =
          rw none_left (ap (words_of size c) (append-nil b) ∙ rw chain.0 at (words_back size D chain.1)) in
          let blocks-same : length pad ≡ length W = pad_length
          ∙ sym (ending_length H proper 0 0 (sym (zero-mul B)) key) in
          ap (filled 16) (ap₂ (λ t u. blocks_of H (t / 16) u H.start) blocks-same (text_is bytes) ∙ sym back)
          ∙ words_filled size c 16 b (omega (arith, long)) proper.short

      go : (t : Bool) → choose t (key_words H 16 key) hashed_words
          ≡ words_of size 16 (filled B (choose t key (digest H key)))
      go true = refl
      go false = hashed

-- ---- how many words it draws, by its length
module _ (M : Masked) (n l : ℕ) where
  pub short_draws_lem : l ≤ block_bytes M.standard → key_draws M n l ≡ 16 * (n - 1)
  short_draws_lem h = rw (le-leb l (block_bytes M.standard) h)

  pub long_draws : block_bytes M.standard < l → (let H = M.standard in
      key_draws M n l ≡ words_for H l * (n - 1) + ((l + H.length_bytes) / block_bytes H + 1) * M.draws n)
  long_draws h = rw (lt-leb l (block_bytes M.standard) h)

-- ---- in shares
module _ {M : Masked} {n : ℕ} {Fits : ℕ → Type 0} {Good : List ℕ → ℕ → Type 0} (keeps : Keeps M n Fits Good)
    (proper : Proper M.standard) (some : 0 < n) where
  abbrev S : Hash
  S = M.standard

  splits_rule : (vs : List ℕ) → ((i : ℕ) → Fits (get_or vs i 0))
      → Rule (length vs * (n - 1)) (λ z. Goods Good (length vs) z vs) (splits n vs)
  unfolding splits
  splits_rule [] fits = counted (give (λ z. Goods Good 0 z []) [] none) (sym (zero-mul (n - 1)))
  splits_rule (v ∷ vs) fits =
      counted
      (bind (keeps.splits_one v (fits 0)) (λ x g.
      bind (splits_rule vs (λ i. fits (suc i))) (λ z gs.
      give (λ z. Goods Good (suc (length vs)) z (v ∷ vs)) (x ++ z) (more g gs))))
      (omega (arith, suc-mul (length vs) (n - 1)))

  zero_words : (m : ℕ) → Goods Good m (replicate (m * n) 0) (replicate m 0)
  unfolding public
  zero_words zero = rw (zero-mul n) none
  zero_words (suc m) =
      let parts : suc m * n ≡ suc (n - 1) + m * n = omega (arith, suc-mul m n) in
      rw (parts, ← replicate-append-replicate {A = ℕ} (suc (n - 1)) (m * n) 0)
      (more (keeps.shows 0 (keeps.fits 0 (pow_pos (8 * S.word_bytes)))) (zero_words m))

  filled_of : {m : ℕ} {s X : List ℕ} (t : ℕ) → m ≤ t → Goods Good m s X → Goods Good t (filled (t * n) s) (filled t X)
  filled_of {m} {s} {X} t h g =
      let parts : t * n ≡ m * n + (t - m) * n = ap (λ i. i * n) (omega arith) ∙ add-mul m (t - m) n in
      let left : t * n - length s ≡ (t - m) * n = omega (arith, goods_size keeps.size g) in
      let all : m + (t - m) ≡ t = omega arith in
      rw (left, how_many g)
      (subst (λ i. Goods Good i (s ++ replicate ((t - m) * n) 0) (X ++ replicate (t - m) 0)) all
      (join g (zero_words (t - m))))

  module _ (key : List ℕ) (fits : (m i : ℕ) → Fits (get_or (key_words S m key) i 0)) where
    abbrev m : ℕ
    m = words_for S (length key)

    abbrev words : List ℕ
    words = key_words S m key

    abbrev W : List ℕ
    W = pad S proper key

    abbrev drawn : ℕ
    drawn = m * (n - 1) + ((length key + S.length_bytes) / block_bytes S + 1) * M.draws n

    hash_rule : Rule drawn (λ z. Goods Good 16 z (hashed_words S proper key)) (hash_key M n key)
    unfolding hash_key
    hash_rule =
        let whole : length W / 16 * 16 ≡ length W = omega (arith, pad_length S proper key) in
        let many : length words ≡ m = length_words S.word_bytes m (filled (m * S.word_bytes) key) in
        let starts = publics_of keeps (chain_words S) S.start refl keeps.starts in
        let pads = publics_of keeps (length W) W refl
        (λ i b. keeps.fits _ (ending_words S proper 0 _ (words_zeros 8 (length key)) i)) in
        counted
        (bind (splits_rule words (fits m)) (λ s gs.
        let padded : Goods Good (length W / 16 * 16) (marked n W (filled (length W * n) s)) (hashed_text S proper key) =
        rw whole (marked_of keeps (filled_of (length W) (rw many (words_in S proper key)) gs) pads) in
        bind (blocks_rule keeps (length W / 16) padded starts) (λ d g.
        give (λ z. Goods Good 16 z (hashed_words S proper key)) (filled (16 * n) d) (filled_of 16 proper.short g))))
        (rw (many, pad_blocks S proper key) (omega arith))

    pub split_key_rule : Rule (key_draws M n (length key)) (λ z. Goods Good 16 z (shared_words S proper key))
        (split_key M n key)
    unfolding split_key
    split_key_rule = go (leb (length key) (block_bytes S))
      where
        sixteen : length (key_words S 16 key) ≡ 16
        sixteen = length_words S.word_bytes 16 (filled (block_bytes S) key)

        go : (t : Bool)
            → Rule (choose t (16 * (n - 1)) drawn)
            (λ z. Goods Good 16 z (choose t (key_words S 16 key) (hashed_words S proper key)))
            (choose t (splits n (key_words S 16 key)) (hash_key M n key))
        go true =
            said (splits_rule (key_words S 16 key) (fits 16)) (ap (λ t. t * (n - 1)) sixteen)
            (λ z g. subst (λ t. Goods Good t z (key_words S 16 key)) sixteen g)
        go false = hash_rule
