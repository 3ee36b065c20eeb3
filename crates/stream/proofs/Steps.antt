-- The steps of start and finish, each made from its parts, and how many words they draw.
use Prim.Native.Nat.{ℕ, ◌+◌, ◌*◌, ◌/◌, ◌%◌, ◌^◌, ◌≤◌, ◌<◌}
use mathlib.Core.Path.{◌≡◌, refl, ap, ◌∙◌}
use mathlib.Core.List.{List, ◌++◌}
use native.Mathlib.Omega.{arith}
use native.Mathlib.Nat.{add-mul}
use lib.ListN.{length, take, replicate}
use Rattle.rules.specs.declared.Algorithm.{Algorithm}
use Rattle.rules.specs.declared.Sha256Chain.{Sha256Chain}
use Rattle.rules.specs.declared.State.{State}
use Rattle.rules.specs.Refusals.{code_of}
use Rattle.rules.specs.Numbers.{longest_message}
use Rattle.rules.specs.Hash.{number_of, ending, filled}
use Rattle.rules.specs.Sha1.{publics}
use Rattle.rules.specs.Hmac.{used, marked, blocks, digest_padding, tag_of}
use Rattle.rules.specs.Counts.{state_draws}
use Rattle.rules.specs.Stream.{state_room, state, start, finish}
use Rattle.rules.proofs.Hashes.{ending_blocks}
use Rattle.rules.proofs.Tags.{hash_proper}
use Rattle.hash.specs.Hash.{hash, standard}
use Rattle.padding.specs.Whole.{blocks_in}

-- ---- a state after both key blocks
pub start_made : (code : Algorithm) (n : ℕ) (key ws : List ℕ) (at p q : ℕ) (i o : Sha256Chain) (s : State)
    → (let M = hash code in
    let H = standard code in
    M.compress n (publics n H.start) (marked n (replicate 16 0x36363636) key) ws at ≡ (used H n i.shares, p)
    → M.compress n (publics n H.start) (marked n (replicate 16 0x5c5c5c5c) key) ws p ≡ (used H n o.shares, q)
    → s ≡ record {
      n = n;
      bytes = 0;
      drawn = state_draws M n 0;
      finished = 0;
      hash = code_of code;
      inner = record { shares = filled state_room (used H n i.shares) };
      outer = record { shares = filled state_room (used H n o.shares) };
      tail = replicate 64 0;
    }
    → start M n key ws at ≡ (s, q))
unfolding start state number_of
start_made code n key ws at p q i o s a b is = rw (a, b, is)

-- ---- the rest of a message
module _ (bytes : ℕ) (tail : List ℕ) (size : length tail ≡ bytes % 64) where
  pub last_fits : (before : ℕ) → bytes ≤ longest_message → before ≤ (bytes / 64 + 1) * 64
      → before + length tail < 2 ^ 60
  last_fits before h l = omega arith

  -- the place after the last blocks of the message, and after the digest block
  module _ (d at : ℕ) where
    abbrev m : ℕ
    m = (bytes % 64 + 8) / 64

    all_blocks : at + blocks_in (length tail) * d + d ≡ at + (m + 2) * d
    all_blocks = rw size (omega (arith, add-mul m 1 d, add-mul m 2 d))

    pub last_room : (have : ℕ) → at + (m + 2) * d ≤ have → at + blocks_in (length tail) * d ≤ have
    last_room have h = omega (arith, all_blocks)

    module _ (p : ℕ) (e : p ≡ at + blocks_in (length tail) * d) where
      pub digest_room : (have : ℕ) → at + (m + 2) * d ≤ have → p + d ≤ have
      digest_room have h = omega (arith, all_blocks)

      pub finish_place : (q : ℕ) → q ≡ p + d → q ≡ at + (m + 2) * d
      finish_place q f = f ∙ ap (λ t. t + d) e ∙ all_blocks

-- ---- the tag: the rest of the message with its padding, then the digest block
pub finish_made : (code : Algorithm) (s : State) (ws tail tag : List ℕ) (at p q : ℕ) (inner last : Sha256Chain)
    → (let M = hash code in
    let H = standard code in
    tail ≡ take (s.bytes % 64) s.tail
    → blocks M s.n (blocks_in (length tail)) (publics s.n (ending H ((s.bytes / 64 + 1) * 64) tail))
    (used H s.n s.inner.shares) ws at
    ≡ (used H s.n inner.shares, p)
    → M.compress s.n (used H s.n s.outer.shares)
    (used H s.n inner.shares ++ publics s.n (digest_padding H)) ws p
    ≡ (used H s.n last.shares, q)
    → tag ≡ tag_of H s.n (used H s.n last.shares)
    → finish M s ws at ≡ (tag, q))
unfolding finish used
finish_made code s ws tail tag at p q inner last waits text digest opened =
    let m = s.bytes / 64 + 1 in
    rw (
      ← waits,
      ending_blocks (standard code) (hash_proper 32 (code_of code)) m (m * 64) refl tail,
      text,
      digest,
      opened,
    )
