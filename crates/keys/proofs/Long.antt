-- A key of one block, and a longer one: its blocks with their padding, its digest, and how many words it draws.
use Prim.Native.Nat.{ℕ, ◌+◌, ◌-◌, ◌*◌, ◌/◌, ◌≤◌, ◌<◌}
use mathlib.Core.Path.{◌≡◌, refl, sym, ap, ◌∙◌}
use mathlib.Core.List.{List, ◌++◌}
use native.Mathlib.Omega.{arith}
use native.Mathlib.Nat.{zero-add, add-mul, zero-mul, mul_comm, mul_assoc, mul-le-mul_right}
use lib.Bits.{bit_xor}
use lib.ListN.{length, take, drop, replicate, length-replicate}
use lib.Seq.{take_at}
use borrow.Author.Tests.{le-leb, lt-leb}
use Rattle.words.proofs.Stores.{lent_zeros, zeros_after}
use Rattle.rules.specs.declared.Algorithm.{Algorithm}
use Rattle.rules.specs.Refusals.{code_of}
use Rattle.rules.specs.Numbers.{largest, longest_key}
use Rattle.rules.specs.Hash.{Hash, chain_words, ending, filled}
use Rattle.rules.specs.Standard.{SHA1}
use Rattle.rules.specs.Sha1.{publics}
use Rattle.rules.specs.Hmac.{used, splits, key_words, marked, blocks, hash_key, split_key}
use Rattle.rules.specs.Counts.{key_draws}
use Rattle.rules.proofs.Loops.{Run}
use Rattle.rules.proofs.Openings.{each_drop, each_take}
use Rattle.rules.proofs.Bytes.{length_words}
use Rattle.rules.proofs.Hashes.{ending_length}
use Rattle.rules.proofs.Tags.{hash_proper}
use Rattle.rules.proofs.Keys.{pad_blocks, short_draws_lem, long_draws}
use Rattle.hash.specs.Hash.{hash, standard}
use Rattle.hash.proofs.Publics.{publics_part}
use Rattle.hash.proofs.Chains.{lent, lent_size, array_end}
use Rattle.padding.proofs.Padded.{any_ending}
use Rattle.padding.specs.Whole.{blocks_in}
use Rattle.key_words.specs.Held.{last_shares, held}
use Rattle.key_words.proofs.Held.{part_same, length_lasts, length_held, splits_held}
use Rattle.keys.specs.Padded.{padded}

abbrev H : Hash
H = SHA1 32

-- ---- block j of a key with its padding
pub marked_room : (n m r k : ℕ) → m ≡ 16 → r ≡ k → k ≡ 16 * n → r ≡ m * n
marked_room n m r k e f g = rw e (f ∙ g)

module _ (n : ℕ) (some : 0 < n) (bytes : ℕ) (lasts ws : List ℕ) (at j : ℕ) (inside : j < blocks_in bytes) where
  abbrev pads : List ℕ
  pads = ending H 0 (replicate bytes 0)

  abbrev s : List ℕ
  s = held n lasts ws at

  abbrev whole : List ℕ
  whole = filled (length pads * n) s

  pub block_padded : (z y values : List ℕ) → z ≡ take (16 * n) (drop (j * (16 * n)) (filled (j * (16 * n) + 16 * n) s))
      → values ≡ take 16 (drop (16 * j) pads) → y ≡ marked n values z
      → y ≡ take (16 * n) (drop (j * (16 * n)) (padded n bytes s))
  unfolding marked
  block_padded z y values e f g =
      let many : length pads ≡ 16 * blocks_in bytes =
      ending_length H (hash_proper 32 0) 0 0 refl (replicate bytes 0) ∙ rw (length-replicate {A = ℕ} bytes 0) in
      let place : 16 * j * n ≡ j * (16 * n) = ap (λ t. t * n) (mul_comm 16 j) ∙ mul_assoc j 16 n in
      let room : j * (16 * n) + 16 * n ≤ length pads * n =
      let all : (16 * j + 16) * n ≤ length pads * n = mul-le-mul_right n (omega (arith, many)) in
      omega (arith, place, add-mul (16 * j) 16 n) in
      let part = part_same (j * (16 * n)) (16 * n) (length pads * n) s room in
      let shown : publics n (take 16 (drop (16 * j) pads)) ≡ take (16 * n) (drop (j * (16 * n)) (publics n pads)) =
      sym (ap (λ t. take (16 * n) (drop t (publics n pads))) (sym place) ∙ publics_part n some 16 (16 * j) pads) in
      g ∙ rw (e, part, f, shown)
      (sym (ap (take (16 * n)) (each_drop bit_xor (j * (16 * n)) whole (publics n pads))
      ∙ each_take bit_xor (16 * n) (drop (j * (16 * n)) whole) (drop (j * (16 * n)) (publics n pads))))

-- ---- the digest's words, then zero shares
pub digest_made : (code : Algorithm) (n m end : ℕ) (chain zs d : List ℕ) → end ≡ chain_words (standard code) * n
    → length chain ≡ 128 → end ≤ 8 * n → n ≤ largest → m ≡ 16 * n → zs ≡ replicate m 0 → d
    ≡ take (end - 0) chain
    → d ++ drop (end - 0) zs ≡ filled (16 * n) (used (standard code) n chain)
digest_made code n m end chain zs d is whole most low size e f =
    let long : length (used (standard code) n chain) ≡ end =
    ap length (sym (lent code n end is chain)) ∙ lent_size code n end is chain (array_end n end chain whole most low)
    ∙ sym is in
    rw (e, f, lent code n end is chain, size, zeros_after (16 * n) end (omega arith), long)

-- ---- the whole of it
module _ (code : Algorithm) (n : ℕ) (key ws : List ℕ) (at : ℕ) where
  abbrev l : ℕ
  l = length key

  abbrev count : ℕ
  count = (l + 3) / 4

  module _ (m have : ℕ) (long : 64 < l) (many : m ≡ count) (room : at + key_draws (hash code) n l ≤ have) where
    pub split_room : at + m * (n - 1) ≤ have
    split_room = rw many (omega (arith, long_draws (hash code) n l long))

    pub held_room : (k : ℕ) → k ≡ m → at + k * (n - 1) ≤ have
    held_room k e = rw e split_room

    pub hash_room : (p : ℕ) → p ≡ at + m * (n - 1) → p + blocks_in l * (hash code).draws n ≤ have
    hash_room p e = omega (arith, long_draws (hash code) n l long, rw many at e)

  pub key_hashed : (m p : ℕ) (lasts : List ℕ) {d : List ℕ} {q : ℕ} → m ≡ count
      → lasts ≡ last_shares n (key_words H m key) ws at
      → p ≡ at + m * (n - 1) → blocks (hash code) n (blocks_in l) (padded n l (held n lasts ws at))
      (publics n (standard code).start) ws p ≡ (d, q)
      → hash_key (hash code) n key ws at ≡ (filled (16 * n) d, q)
  unfolding hash_key
  key_hashed m p lasts {d} {q} e f g h =
      let vs = key_words H count key in
      let many : length vs ≡ count = length_words 4 count (filled (count * 4) key) in
      let made : blocks (hash code) n (blocks_in l) (padded n l (held n (last_shares n vs ws at) ws at))
      (publics n (standard code).start) ws
      (at + length vs * (n - 1)) ≡ (d, q) = rw many (rw (f, g, e) at h) in
      rw (
        splits_held n ws vs at,
        ← any_ending (code_of code) 0 (replicate l 0),
        pad_blocks H (hash_proper 32 0) key,
        made,
      )

  -- ---- by the length of the key
  pub long_made : (d z : List ℕ) (q : ℕ) → hash_key (hash code) n key ws at ≡ (d, q) → z ≡ d
      → hash_key (hash code) n key ws at ≡ (z, q)
  long_made d z q e f = e ∙ ap (λ (t : List ℕ). (t, q)) (sym f)

  module _ (short : l ≤ 64) where
    pub drawn_room : (have : ℕ) → at + key_draws (hash code) n l ≤ have → at + 16 * (n - 1) ≤ have
    drawn_room have h = rw (short_draws_lem (hash code) n l short) at h

    pub short_case : (o : Run) → splits n (key_words H 16 key) ws at ≡ o → split_key (hash code) n key ws at ≡ o
    unfolding split_key
    short_case o e = rw (le-leb l 64 short) e

  pub long_case : (o : Run) → 64 < l → hash_key (hash code) n key ws at ≡ o → split_key (hash code) n key ws at ≡ o
  unfolding split_key
  long_case o h e = rw (lt-leb l 64 h) e

-- ---- room for the last shares; and a key of one block is its own first block
module _ (n : ℕ) (key ws : List ℕ) (at : ℕ) where
  pub lent_room : (let m = (length key + 3) / 4 in 64 < length key → length key ≤ longest_key
      → length {A = ℕ} (take (m - 0) (replicate 256 0)) ≡ m)
  lent_room h k =
      let m = (length key + 3) / 4 in
      ap length (lent_zeros 256 m (omega arith)) ∙ length-replicate {A = ℕ} m 0

  pub short_room : (m have : ℕ) → m ≡ 16 → at + 16 * (n - 1) ≤ have → at + m * (n - 1) ≤ have
  short_room m have e h = rw e h

  pub short_made : (m p : ℕ) (lasts z : List ℕ) → 0 < n → m ≡ 16 → lasts ≡ last_shares n (key_words H m key) ws at
      → p ≡ at + m * (n - 1)
      → z ≡ take (16 * n) (drop (0 * (16 * n)) (filled (0 * (16 * n) + 16 * n) (held n lasts ws at)))
      → splits n (key_words H 16 key) ws at ≡ (z, p)
  short_made m p lasts z some e f g h =
      let vs = key_words H 16 key in
      let many : length vs ≡ 16 = length_words 4 16 (filled 64 key) in
      let kept : lasts ≡ last_shares n vs ws at = f ∙ rw e in
      let s = held n (last_shares n vs ws at) ws at in
      let long : length s ≡ 16 * n = length_held n some ws (last_shares n vs ws at) at
      ∙ rw (length_lasts n ws vs at, many) in
      let rest : List ℕ = replicate (16 * n - length s) 0 in
      let is : z ≡ s = h ∙ rw (kept, zero-mul (16 * n), zero-add) (take_at s rest (16 * n) long) in
      splits_held n ws vs at ∙ rw (is, g, e, many)
