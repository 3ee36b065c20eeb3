-- Section 10, streaming: a tag while the message comes in pieces, over any hash in shares. Start, feed a piece of any
-- length, and finish, each with words of its own; the state is handed in and out.
use Rattle.std.specs.Prelude.{ℕ, zero, suc, ◌+◌, ◌*◌, ◌/◌, ◌%◌, ◌≡◌, Bool, List, [], ◌∷◌, ◌++◌, eqb, leb, length, take}
use Rattle.std.specs.Prelude.{drop}
use Rattle.rules.specs.declared.Answer.{Answer}
use Rattle.rules.specs.declared.Sha256Chain.{Sha256Chain}
use Rattle.rules.specs.declared.State.{State}
use Rattle.rules.specs.declared.Streamed.{Streamed}
use Rattle.rules.specs.Supply.{Draw, Count, Supply, Sharing}
use Rattle.rules.specs.Numbers.{longest_message, both, allowed, test, settled}
use Rattle.rules.specs.Hash.{Bytes, Hash, block_bytes, chain_words, digest_bytes, words_of, filled}
use Rattle.rules.specs.Sha1.{publics}
use Rattle.rules.specs.Hmac.{Masked, key_step, text_step, digest_step, tag_of}
use Rattle.rules.specs.Counts.{start_draws, feed_draws, finish_draws, state_draws}
use Rattle.rules.specs.Calls.{call, query}

-- ---- the state
-- the places of each of its chains, for any hash
abbrev pub state_room : ℕ
state_room = 128

-- what is read of it: the shares in use of a chain, and the bytes of the block that is not yet full
abbrev pub in_use : Hash → State → Sha256Chain → Sharing
in_use H s chain = take (chain_words H * s.n) chain.shares

abbrev pub waiting : Hash → State → Bytes
waiting H s = take (s.bytes % block_bytes H) s.tail

-- of two states the same is read
pub record ReadAlike (H : Hash) (s t : State) : Type 0 where
  pub counts : s.n ≡ t.n
  pub bytes_fed : s.bytes ≡ t.bytes
  pub words_drawn : s.drawn ≡ t.drawn
  pub marks : s.finished ≡ t.finished
  pub hashes : s.hash ≡ t.hash
  pub inners : in_use H s s.inner ≡ in_use H t t.inner
  pub outers : in_use H s s.outer ≡ in_use H t t.outer
  pub tails : waiting H s ≡ waiting H t

-- a state made anew: its count is that of its bytes; unused words of both chains and unfilled bytes of the tail are 0
unfoldable pub state : Masked → Count → ℕ → Sharing → Sharing → Bytes → State
state M n bytes inner outer tail =
    record {
      n = n;
      bytes = bytes;
      drawn = state_draws M n bytes;
      finished = 0;
      hash = M.code;
      inner = record { shares = filled state_room inner };
      outer = record { shares = filled state_room outer };
      tail = filled 64 tail;
    }

-- a state of zeros
abbrev pub state_of_zeros : State
state_of_zeros =
    let none : Sha256Chain = record { shares = filled state_room [] } in
    record { n = 0; bytes = 0; drawn = 0; finished = 0; hash = 0; inner = none; outer = none; tail = filled 64 [] }

-- ---- the rules
-- start: the inner key block, then the outer one
unfoldable pub start : Masked → Count → Sharing → Draw State
start M n key ws at =
    let i = key_step M n 0x36 key ws at in
    let o = key_step M n 0x5c key ws i.1 in
    (state M n 0 i.0 o.0 [], o.1)

-- feed: the bytes that wait and then the piece; every block that becomes full is compressed at once, in order; the rest
-- waits
unfoldable pub full_blocks : Masked → Count → ℕ → Bytes → Sharing → Draw Sharing
full_blocks M n zero text h ws at = (h, at)
full_blocks M n (suc m) text h ws at =
    let H = M.standard in
    let c = M.compress n h (publics n (words_of H.word_bytes 16 text)) ws at in
    full_blocks M n m (drop (block_bytes H) text) c.0 ws c.1

abbrev pub fed_from : Masked → Count → ℕ → Sharing → Sharing → Bytes → Bytes → Draw State
fed_from M n bytes inner outer waits piece ws at =
    let B = block_bytes M.standard in
    let text = waits ++ piece in
    let full = length text / B in
    let c = full_blocks M n full text inner ws at in
    (state M n (bytes + length piece) c.0 outer (drop (full * B) text), c.1)

unfoldable pub feed : Masked → State → Bytes → Draw State
feed M s =
    let H = M.standard in
    fed_from M s.n s.bytes (in_use H s s.inner) (in_use H s s.outer) (waiting H s)

-- finish: the padding over the whole length with the key block counted, into the inner chain; then the digest block
-- into the outer one; the tag is opened
abbrev pub finished_from : Masked → Count → ℕ → Sharing → Sharing → Bytes → Draw Bytes
finished_from M n bytes inner outer waits ws at =
    let B = block_bytes M.standard in
    let d = text_step M n ((bytes / B + 1) * B) waits inner ws at in
    let t = digest_step M n d.0 outer ws d.1 in
    (tag_of M.standard n t.0, t.1)

unfoldable pub finish : Masked → State → Draw Bytes
finish M s =
    let H = M.standard in
    finished_from M s.n s.bytes (in_use H s s.inner) (in_use H s s.outer) (waiting H s)

-- ---- the calls
-- number 6: a state is taken that has an allowed share count, is not past the limit and not finished, belongs to this
-- hash, and whose count is that of its bytes
unfoldable pub fit : Masked → Count → ℕ → ℕ → ℕ → ℕ → Bool
fit M n bytes drawn finished hash =
    both (both (allowed n) (leb bytes longest_message))
    (both (eqb finished 0) (both (eqb hash M.code) (eqb drawn (state_draws M n bytes))))

abbrev pub is_fit : Masked → State → Bool
is_fit M s = fit M s.n s.bytes s.drawn s.finished s.hash

abbrev pub streamed : Answer → State → Streamed
streamed answer s = record { number = answer.number; drawn = answer.drawn; state = s }

-- a refused start gives a state of zeros
unfoldable pub start_call : Masked → Count → Sharing → Supply → Streamed
start_call M n key ws =
    let o = call (test 1 (allowed n) ∷ test 2 (eqb (length key) (16 * n)) ∷ []) (start M n key)
    state_of_zeros ws in
    streamed o.0 o.1

-- a refused piece hands back the state; the limit counts all pieces
unfoldable pub feed_call : Masked → State → Bytes → Supply → Streamed
feed_call M s piece ws =
    let o = call (test 6 (is_fit M s) ∷ test 4 (leb (s.bytes + length piece) longest_message) ∷ [])
    (feed M s piece) s ws in
    streamed o.0 o.1

-- an accepted finish only sets the finished mark; a refused one hands back the state
abbrev pub closed : State → State
closed s =
    record {
      n = s.n;
      bytes = s.bytes;
      drawn = s.drawn;
      finished = 1;
      hash = s.hash;
      inner = s.inner;
      outer = s.outer;
      tail = s.tail;
    }

unfoldable pub finish_call : Masked → State → Bytes → Supply → Streamed × Bytes
finish_call M s came ws =
    let tests = test 6 (is_fit M s) ∷ test 3 (eqb (length came) (digest_bytes M.standard)) ∷ [] in
    let o = call tests (finish M s) came ws in
    (streamed o.0 (settled o.0.number (closed s) s), o.1)

-- ---- queries: how many words a call will draw
abbrev pub start_words : Masked → Count → Answer
start_words M n = query (test 1 (allowed n) ∷ []) (start_draws M n)

abbrev pub feed_words : Masked → State → ℕ → Answer
feed_words M s l =
    query (test 6 (is_fit M s) ∷ test 4 (leb (s.bytes + l) longest_message) ∷ []) (feed_draws M s.n s.bytes l)

abbrev pub finish_words : Masked → State → Answer
finish_words M s = query (test 6 (is_fit M s) ∷ []) (finish_draws M s.n s.bytes)

-- ---- what is said of a run: pieces fed one after the other, each with words of its own
abbrev pub Feeds : Type 0
Feeds = List (Bytes × Supply)

-- the pieces, joined
unfoldable pub message : Feeds → Bytes
message [] = []
message (f ∷ fs) = f.0 ++ message fs

-- the state after them, and the words that they drew, joined in order
unfoldable pub after : Masked → State → Feeds → State
after M s [] = s
after M s (f ∷ fs) = after M (feed_call M s f.0 f.1).state fs

unfoldable pub drawn : Masked → State → Feeds → Supply
drawn M s [] = []
drawn M s (f ∷ fs) = let o = feed_call M s f.0 f.1 in take o.drawn f.1 ++ drawn M o.state fs

-- none of them is refused
unfoldable pub Accepted : Masked → State → Feeds → Type 0
Accepted M s [] = Unit {0}
Accepted M s (f ∷ fs) = let o = feed_call M s f.0 f.1 in (o.number ≡ 0) × Accepted M o.state fs

-- any run of calls from an accepted start, accepted or refused, each on a state that one before it handed back: how
-- many bytes were taken until then, how many words start and feeds drew, and the state
pub data Reached (M : Masked) (n : Count) : ℕ → ℕ → State → Type 0 where
  starts : (key : Sharing) (ws : Supply) {r : Streamed} → start_call M n key ws ≡ r → r.number ≡ 0
      → Reached M n 0 r.drawn r.state
  feeds : (piece : Bytes) (ws : Supply) {bytes words : ℕ} {s : State} {r : Streamed} → Reached M n bytes words s
      → feed_call M s piece ws ≡ r
      → Reached M n (bytes + settled r.number (length piece) 0) (words + r.drawn) r.state
  finishes : (came tag : Bytes) (ws : Supply) {bytes words : ℕ} {s : State} {r : Streamed} → Reached M n bytes words s
      → finish_call M s came ws ≡ (r, tag) → Reached M n bytes words r.state
