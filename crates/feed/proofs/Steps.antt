-- The steps of feeding, each made from its parts, and how many words they draw.
use Prim.Native.Nat.{ℕ, suc, ◌+◌, ◌-◌, ◌*◌, ◌/◌, ◌%◌, ◌^◌, ◌≤◌, ◌<◌}
use mathlib.Core.Path.{◌≡◌, sym, ap, ap₂, ◌∙◌}
use mathlib.Core.List.{List, [], ◌++◌, append-nil}
use native.Mathlib.Omega.{arith}
use native.Mathlib.Nat.{sub-zero}
use lib.ListN.{length, get_or, set, take, drop, replicate, length-append, length-drop, take-append-drop}
use lib.ListN.{get_or-append}
use lib.Seq.{take_at, take_all, drop-drop, get_or-append-add, get_or-take, get_or-drop, length-take-le}
use Rattle.words.proofs.Stores.{filled_next, zeros_after}
use Rattle.rules.specs.declared.Algorithm.{Algorithm}
use Rattle.rules.specs.Refusals.{code_of}
use Rattle.rules.specs.declared.Sha256Chain.{Sha256Chain}
use Rattle.rules.specs.declared.State.{State}
use Rattle.rules.specs.Numbers.{longest_message}
use Rattle.rules.specs.Hash.{words_of, ending, filled}
use Rattle.rules.specs.Standard.{SHA1}
use Rattle.rules.specs.Sha1.{publics}
use Rattle.rules.specs.Hmac.{used}
use Rattle.rules.specs.Counts.{state_draws}
use Rattle.rules.specs.Stream.{state_room, state, full_blocks, feed}
use Rattle.rules.proofs.Loops.{Run}
use Rattle.rules.proofs.Bytes.{length_words, words_front}
use Rattle.rules.proofs.Hashes.{ending_front}
use Rattle.rules.proofs.Tags.{hash_proper}
use Rattle.hash.specs.Hash.{hash, standard}

-- ---- the bytes that wait and then the piece
module _ (tail piece : List ℕ) where
  pub waiting_byte : (i : ℕ) → i < length tail → get_or tail i 0 ≡ get_or (tail ++ piece) i 0
  waiting_byte i h = sym (get_or-append tail piece 0 i h)

  pub piece_byte : (i : ℕ) → length tail ≤ i → get_or piece (i - length tail) 0 ≡ get_or (tail ++ piece) i 0
  piece_byte i h =
      let place : i ≡ length tail + (i - length tail) = omega arith in
      sym (ap (λ t. get_or (tail ++ piece) t 0) place ∙ get_or-append-add tail piece (i - length tail) 0)

  -- some of them, filled from the front
  module _ (p l : ℕ) (room : p + l ≤ length tail + length piece) (z : List ℕ) (size : length z ≡ l) (i : ℕ) where
    abbrev part : List ℕ
    part = take l (drop p (tail ++ piece))

    length_part : length part ≡ l
    length_part =
        length-take-le l (drop p (tail ++ piece))
        (rw (length-drop p (tail ++ piece), length-append tail piece) (omega arith))

    pub part_next : (v : ℕ) → i < l → v ≡ get_or (tail ++ piece) (p + i) 0 → take i z ≡ take i part
        → take (i + 1) (set z i v) ≡ take (i + 1) part
    part_next v h e f =
        filled_next z part i v (rw size h) (size ∙ sym length_part)
        (e ∙ sym (get_or-take l (drop p (tail ++ piece)) i 0 (omega arith) ∙ get_or-drop p (tail ++ piece) i 0)) f

-- ---- a full block of a text: the words of its bytes
full_words : (text : List ℕ) → 64 ≤ length text
    → take 16 (drop (16 * 0) (ending (SHA1 32) 0 (take 64 text))) ≡ words_of 4 16 text
full_words text h =
    let block = take 64 text in
    let size : length block ≡ 64 = length-take-le 64 text h in
    let W = words_of 4 16 block in
    ap (λ t. take 16 (ending (SHA1 32) 0 t)) (sym (append-nil block))
    ∙ ap (take 16) (ending_front (SHA1 32) (hash_proper 32 0) 1 0 block [] size)
    ∙ take_at W _ 16 (length_words 4 16 block)
    ∙ sym (words_front 4 16 block (drop 64 text) (omega (arith, size)))
    ∙ ap (words_of 4 16) (take-append-drop 64 text)

pub full_made : (code : Algorithm) (n : ℕ) (h tail piece bytes b ws : List ℕ) (j at : ℕ) {o : Run}
    → 64 * j + 64 ≤ length tail + length piece
    → bytes ≡ take 64 (drop (64 * j) (tail ++ piece)) → (hash code).compress n h b ws at ≡ o
    → b ≡ publics n (take 16 (drop (16 * 0) (ending (SHA1 32) 0 bytes)))
    → (hash code).compress n h (publics n (words_of 4 16 (drop (64 * j) (tail ++ piece)))) ws at ≡ o
full_made code n h tail piece bytes b ws j at room e f made =
    let text = tail ++ piece in
    let long : 64 ≤ length (drop (64 * j) text) =
    rw (length-drop (64 * j) text, length-append tail piece) (omega arith) in
    rw (← full_words (drop (64 * j) text) long, ← e, ← made) f

-- ---- the full blocks, one after the other: j of them done
module _ (code : Algorithm) (n : ℕ) (ws text : List ℕ) (count : ℕ) (e : Run) where
  pub full_next : (j p q : ℕ) (g g1 : List ℕ) → j < count
      → (hash code).compress n g (publics n (words_of 4 16 (drop (64 * j) text))) ws p ≡ (g1, q)
      → full_blocks (hash code) n (count - j) (drop (64 * j) text) g ws p ≡ e
      → full_blocks (hash code) n (count - (j + 1)) (drop (64 * (j + 1)) text) g1 ws q ≡ e
  unfolding full_blocks
  full_next j p q g g1 l f inv =
      let m : count - j ≡ suc (count - (j + 1)) = omega arith in
      let place : 64 * j + 64 ≡ 64 * (j + 1) = omega arith in
      let rest : drop 64 (drop (64 * j) text) ≡ drop (64 * (j + 1)) text = drop-drop 64 (64 * j) text
      ∙ ap (λ t. drop t text) place in
      rw (← rest) (sym (ap (λ (r : Run). full_blocks (hash code) n (count - (j + 1)) (drop 64 (drop (64 * j) text))
      r.0 ws
      r.1) f) ∙ (rw m at inv))

  pub full_end : (j p : ℕ) (g : List ℕ) → count ≤ j → full_blocks (hash code) n (count - j) (drop (64 * j) text) g ws
      p ≡ e → e
      ≡ (g, p)
  unfolding full_blocks
  full_end j p g l inv = let m : count - j ≡ 0 = omega arith in sym (rw m at inv)

-- ---- a state after a piece
module _ (bytes l : ℕ) (tail : List ℕ) (size : length tail ≡ bytes % 64) where
  pub piece_fits : bytes + l ≤ longest_message → length tail + l < 2 ^ 60
  piece_fits h = omega arith

  pub piece_room : (d at have : ℕ) → at + (bytes % 64 + l) / 64 * d ≤ have → at + (length tail + l) / 64 * d ≤ have
  piece_room d at have h = rw size h

  pub piece_place : (d at p : ℕ) → p ≡ at + (length tail + l) / 64 * d → p ≡ at + (bytes % 64 + l) / 64 * d
  piece_place d at p e = rw size at e

-- the bytes after the last full block, stored in front of zeros
module _ (tail piece z : List ℕ) where
  abbrev count : ℕ
  count = length tail + length piece

  abbrev left : ℕ
  left = count % 64

  pub rest_made : z ≡ take (length (take {A = ℕ} (left - 0) (replicate 64 0))) (drop (count - left) (tail ++ piece))
      → z ++ drop {A = ℕ} (left - 0) (replicate 64 0) ≡ filled 64 (drop (count / 64 * 64) (tail ++ piece))
  rest_made e =
      let rest = drop (count / 64 * 64) (tail ++ piece) in
      let place : count - left ≡ count / 64 * 64 = omega arith in
      let over : length rest ≡ left =
      length-drop (count / 64 * 64) (tail ++ piece) ∙ omega (arith, length-append tail piece) in
      let room : length (take {A = ℕ} (left - 0) (replicate 64 0)) ≡ left =
      rw (sub-zero left) (length-take-le left (replicate 64 0) (omega arith)) in
      let last : z ≡ rest =
      e ∙ ap₂ (λ l t. take l (drop t (tail ++ piece))) room place ∙ take_all left rest (omega (arith, over)) in
      rw (last, over, zeros_after 64 left (omega arith))

pub feed_made : (code : Algorithm) (s : State) (piece ws tail rest : List ℕ) (at p : ℕ) (inner : Sha256Chain)
    (r : State)
    → tail ≡ take (s.bytes % 64) s.tail
    → full_blocks (hash code) s.n ((length tail + length piece) / 64) (tail ++ piece)
    (used (standard code) s.n s.inner.shares) ws at
    ≡ (used (standard code) s.n inner.shares, p)
    → rest ≡ filled 64 (drop ((length tail + length piece) / 64 * 64) (tail ++ piece))
    → r ≡ record {
      n = s.n;
      bytes = s.bytes + length piece;
      drawn = state_draws (hash code) s.n (s.bytes + length piece);
      finished = 0;
      hash = code_of code;
      inner = record { shares = filled state_room (used (standard code) s.n inner.shares) };
      outer = record { shares = filled state_room (used (standard code) s.n s.outer.shares) };
      tail = rest;
    }
    → feed (hash code) s piece ws at ≡ (r, p)
unfolding feed state used
feed_made code s piece ws tail rest at p inner r waits full ends is =
    rw (is, ← waits, length-append tail piece, full, ends)
