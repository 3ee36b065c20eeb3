-- Streaming over any hash in shares: what a feed makes of a state, that pieces may be joined, and what finish makes.
use Prim.Native.Nat.{ℕ, zero, suc, ◌+◌, ◌-◌, ◌*◌, ◌/◌, ◌%◌, ◌≤◌, ◌<◌}
use mathlib.Core.Path.{◌≡◌, refl, sym, ap, ◌∙◌}
use mathlib.Core.List.{List, [], ◌++◌, append_assoc, append-nil}
use native.Mathlib.Nat.{zero-add, add-zero, suc-add, suc-mul, zero-mul, add-mul}
use native.Mathlib.Omega.{arith}
use lib.ListN.{length, get_or, drop, length-append, length-drop}
use lib.Seq.{take_at, drop_at, drop-drop, drop-append-le}
use Rattle.rules.specs.declared.State.{State}
use Rattle.rules.specs.Supply.{Rule}
use Rattle.rules.specs.Hash.{Hash, block_bytes, chain_words, words_of, ending, blocks as blocks_of}
use Rattle.rules.specs.Sha1.{publics}
use Rattle.rules.specs.Hmac.{Masked, digest_padding, tag_of}
use Rattle.rules.specs.Counts.{start_draws, feed_draws, finish_draws, state_draws}
use Rattle.rules.specs.Stream.{state_room, in_use, waiting, ReadAlike, state, start, fed_from, finished_from}
use Rattle.rules.specs.Stream.{full_blocks, feed, finish}
use Rattle.rules.specs.Outcome.{Whole}
use Rattle.rules.proofs.Rule.{give, bind, said, counted}
use Rattle.rules.proofs.Bytes.{length_words, words_front, words_split}
use Rattle.rules.proofs.Goods.{Goods}
use Rattle.rules.proofs.Hashes.{Proper, keyed_words}
use Rattle.rules.proofs.Keys.{length_filled}
use Rattle.rules.proofs.MaskedHmac.{Keeps, publics_of, key_rule, text_rule, digest_rule}

-- ---- arithmetic of blocks
module _ (B : ℕ) (block : B ≡ 64) where
  pub left_over : (l : ℕ) → l - l / B * B ≡ l % B
  left_over l = rw block (omega arith)

  pub whole_part : (l : ℕ) → l / B * B ≤ l
  whole_part l = rw block (omega arith)

  whole_and : (m l : ℕ) → (m * B + l) / B ≡ m + l / B
  whole_and m l = rw block (omega arith)

  tail_after : (b l : ℕ) → (b % B + l) % B ≡ (b + l) % B
  tail_after b l = rw block (omega arith)

  tail_short : (b : ℕ) → b % B / B ≡ 0
  tail_short b = rw block (omega arith)

-- ---- the count that a state carries
pub state_count : (M : Masked) (n bytes : ℕ) → block_bytes M.standard ≡ 64
    → state_draws M n bytes ≡ (2 + bytes / 64) * M.draws n
unfolding state_draws
state_count M n bytes sixty-four =
    let d = M.draws n in
    let whole : (0 % 64 + bytes) / 64 ≡ bytes / 64 = omega arith in
    rw sixty-four (ap (λ q. 2 * d + q * d) whole ∙ sym (add-mul 2 (bytes / 64) d))

-- with a piece more
pub state_next : (M : Masked) (n bytes l : ℕ) → block_bytes M.standard ≡ 64
    → state_draws M n bytes + feed_draws M n bytes l ≡ state_draws M n (bytes + l)
state_next M n bytes l sixty-four =
    let d = M.draws n in
    let more : 2 + bytes / 64 + (bytes % 64 + l) / 64 ≡ 2 + (bytes + l) / 64 = omega arith in
    rw (state_count M n bytes sixty-four, state_count M n (bytes + l) sixty-four, sixty-four)
    (sym (add-mul (2 + bytes / 64) ((bytes % 64 + l) / 64) d) ∙ ap (λ t. t * d) more)

-- ---- full blocks of a text
module _ (M : Masked) (n : ℕ) where
  abbrev H : Hash
  H = M.standard

  abbrev B : ℕ
  B = block_bytes H

  pub full_append : (a b : ℕ) (text h ws : List ℕ) (at : ℕ)
      → full_blocks M n (a + b) text h ws at
      ≡ (let r = full_blocks M n a text h ws at in full_blocks M n b (drop (a * B) text) r.0 ws r.1)
  unfolding full_blocks
  full_append zero b text h ws at = rw (zero-add, zero-mul B)
  full_append (suc a) b text h ws at =
      let c = M.compress n h (publics n (words_of H.word_bytes 16 text)) ws at in
      let place : B + a * B ≡ suc a * B = omega (arith, suc-mul a B) in
      rw (suc-add a b)
      (full_append a b (drop B text) c.0 ws c.1
      ∙ ap (λ t. let r = full_blocks M n a (drop B text) c.0 ws c.1 in full_blocks M n b t r.0 ws r.1)
      (drop-drop (a * B) B text ∙ ap (λ t. drop t text) place))

  pub full_front : (a : ℕ) (x y h ws : List ℕ) (at : ℕ) → a * B ≤ length x
      → full_blocks M n a (x ++ y) h ws at ≡ full_blocks M n a x h ws at
  unfolding full_blocks
  full_front zero x y h ws at room = refl
  full_front (suc a) x y h ws at room =
      let one : B ≤ length x = omega (arith, suc-mul a B) in
      let rest : a * B ≤ length (drop B x) = rw (length-drop B x) (omega (arith, suc-mul a B)) in
      rw (words_front H.word_bytes 16 x y one, drop-append-le B x y one) (full_front a (drop B x) y _ ws _ rest)

module _ {M : Masked} {n : ℕ} {Fits : ℕ → Type 0} {Good : List ℕ → ℕ → Type 0} (keeps : Keeps M n Fits Good) where
  abbrev S : Hash
  S = M.standard

  abbrev c : ℕ
  c = chain_words S

  abbrev size : ℕ
  size = S.word_bytes

  abbrev block : ℕ
  block = block_bytes S

  -- the words of a text may enter, wherever they are read
  abbrev pub Readable : List ℕ → Type 0
  Readable text = (j i : ℕ) → Fits (get_or (words_of size 16 (drop j text)) i 0)

  pub full_rule : (m : ℕ) (text : List ℕ) {h C : List ℕ} → Readable text → Goods Good c h C
      → Rule (m * M.draws n) (λ z. Goods Good c z (blocks_of S m (words_of size (m * 16) text) C))
      (full_blocks M n m text h)
  unfolding full_blocks blocks_of
  full_rule zero text {h} {C} u g = counted (give (λ z. Goods Good c z C) h g) (sym (zero-mul (M.draws n)))
  full_rule (suc m) text {h} {C} u g =
      let W = words_of size 16 text in
      let sixteen : length W ≡ 16 = length_words size 16 text in
      let rest = words_of size (m * 16) (drop block text) in
      let more : words_of size (suc m * 16) text ≡ W ++ rest =
      ap (λ t. words_of size t text) (suc-mul m 16 ∙ omega arith) ∙ words_split size 16 (m * 16) text in
      let later : Readable (drop block text) = λ j i. rw (drop-drop j block text) (u (block + j) i) in
      said
      (bind (keeps.compresses g (publics_of keeps 16 W sixteen (λ i b. u 0 i)))
      (λ z gz. full_rule m (drop block text) later gz))
      (omega (arith, suc-mul m (M.draws n)))
      (λ z gz. rw (more, take_at W rest 16 sixteen, drop_at W rest 16 sixteen) gz)

-- ---- start: both key blocks
module _ {M : Masked} {n : ℕ} {Fits : ℕ → Type 0} {Good : List ℕ → ℕ → Type 0} (keeps : Keeps M n Fits Good)
    (proper : Proper M.standard) (some : 0 < n) {key KEY : List ℕ} (key-good : Goods Good 16 key KEY) where
  abbrev K : Hash
  K = M.standard

  pub record Started (t : State) : Type 0 where
    pub inner : List ℕ
    pub outer : List ℕ
    pub is : t ≡ state M n 0 inner outer []
    pub inner_good : Goods Good (chain_words K) inner
        (K.compress K.start (keyed_words K 0x36 KEY))
    pub outer_good : Goods Good (chain_words K) outer
        (K.compress K.start (keyed_words K 0x5c KEY))

  pub start_rule : Rule (start_draws M n) Started (start M n key)
  unfolding start
  start_rule =
      counted
      (bind (key_rule keeps proper some 0x36 (omega arith) key-good) (λ i gi.
      bind (key_rule keeps proper some 0x5c (omega arith) key-good) (λ o go.
      give Started (state M n 0 i o [])
      (record { inner = i; outer = o; is = refl; inner_good = gi; outer_good = go }))))
      (omega arith)

-- ---- feed and finish by what they read of a state: the bytes so far, the chains in use and the bytes that wait
pub feed_reads : (M : Masked) (s : State) (piece ws : List ℕ) (at : ℕ)
    → (let H = M.standard in
    feed M s piece ws at ≡ fed_from M s.n s.bytes (in_use H s s.inner) (in_use H s s.outer)
    (waiting H s) piece ws at)
unfolding feed
feed_reads M s piece ws at = refl

pub finish_reads : (M : Masked) (s : State) (ws : List ℕ) (at : ℕ)
    → (let H = M.standard in
    finish M s ws at ≡ finished_from M s.n s.bytes (in_use H s s.inner) (in_use H s s.outer)
    (waiting H s) ws at)
unfolding finish
finish_reads M s ws at = refl

-- nothing else of a state has a say
module _ (M : Masked) (s t : State) (Alike-read : ReadAlike M.standard s t) where
  pub feed_alike : (piece ws : List ℕ) (at : ℕ) → feed M s piece ws at ≡ feed M t piece ws at
  feed_alike piece ws at =
      let a = Alike-read in
      feed_reads M s piece ws at
      ∙ rw (a.inners, a.outers, a.tails, a.counts, a.bytes_fed) (sym (feed_reads M t piece ws at))

  pub finish_alike : (ws : List ℕ) (at : ℕ) → finish M s ws at ≡ finish M t ws at
  finish_alike ws at =
      let a = Alike-read in
      finish_reads M s ws at ∙ rw (a.inners, a.outers, a.tails, a.counts, a.bytes_fed)
      (sym (finish_reads M t ws at))

-- ---- what they make
module _ {M : Masked} {n : ℕ} {Fits : ℕ → Type 0} {Good : List ℕ → ℕ → Type 0} (keeps : Keeps M n Fits Good)
    (bytes : ℕ) (waits : List ℕ) {inner I : List ℕ} (size : length waits ≡ bytes % block_bytes M.standard)
    (inner_good : Goods Good (chain_words M.standard) inner I) where
  abbrev T : Hash
  T = M.standard

  module _ (outer piece : List ℕ) where
    abbrev text : List ℕ
    text = waits ++ piece

    abbrev full : ℕ
    full = length text / block_bytes T

    -- the state after a piece
    pub record Fed (t : State) : Type 0 where
      pub chain : List ℕ
      pub is : t ≡ state M n (bytes + length piece) chain outer (drop (full * block_bytes T) text)
      pub good : Goods Good (chain_words T) chain (blocks_of T full (words_of T.word_bytes (full * 16) text) I)

    pub fed_rule : Readable keeps text
        → Rule (feed_draws M n bytes (length piece)) Fed (fed_from M n bytes inner outer waits piece)
    fed_rule u =
        counted
        (bind (full_rule keeps full text u inner_good) (λ z g.
        give Fed (state M n (bytes + length piece) z outer (drop (full * block_bytes T) text))
        (record { chain = z; is = refl; good = g })))
        (add-zero (full * M.draws n)
        ∙ ap (λ l. l / block_bytes T * M.draws n) (length-append waits piece ∙ ap (λ l. l + length piece) size))

  -- the tag: of a digest in shares
  module _ (proper : Proper T) (some : 0 < n) {outer O : List ℕ} (outer_good : Goods Good (chain_words T) outer O) where
    abbrev last : List ℕ
    last = ending T ((bytes / block_bytes T + 1) * block_bytes T) waits

    pub record Tagged (t : List ℕ) : Type 0 where
      pub chain : List ℕ
      pub is : t ≡ tag_of T n chain
      pub good : Goods Good (chain_words T) chain
          (T.compress O (blocks_of T (length last / 16) last I ++ digest_padding T))

    pub finished_rule : ((i : ℕ) → Fits (get_or last i 0))
        → Rule (finish_draws M n bytes) Tagged (finished_from M n bytes inner outer waits)
    finished_rule u =
        let d = M.draws n in
        let q = (bytes % block_bytes T + T.length_bytes) / block_bytes T in
        let m = bytes / block_bytes T + 1 in
        counted
        (bind (text_rule keeps proper some m (m * block_bytes T) refl waits u inner_good) (λ e ge.
        bind (digest_rule keeps proper some ge outer_good) (λ z gz.
        give Tagged (tag_of T n z) (record { chain = z; is = refl; good = gz }))))
        (rw size (omega (arith, add-mul q 1 d, add-mul q 2 d)))

module _ (M : Masked) (n bytes : ℕ) (inner outer waits : List ℕ) where
  abbrev U : Hash
  U = M.standard

  -- a state made so
  pub record Made : Type 0 where
    pub inner_size : length inner ≡ chain_words U * n
    pub outer_size : length outer ≡ chain_words U * n
    pub waits_size : length waits ≡ bytes % block_bytes U

  module _ (made : Made) where
    abbrev s : State
    s = state M n bytes inner outer waits

    -- it has its type's sizes
    pub made_whole : block_bytes U ≡ 64 → chain_words U * n ≤ state_room → Whole s
    unfolding state
    made_whole sixty-four room =
        record {
          inner_whole = length_filled state_room inner (omega (arith, made.inner_size));
          outer_whole = length_filled state_room outer (omega (arith, made.outer_size));
          tail_whole = length_filled 64 waits (rw (made.waits_size, sixty-four) (omega arith));
        }

    pub made_inner : in_use U s s.inner ≡ inner
    unfolding state
    made_inner = take_at inner _ (chain_words U * n) made.inner_size

    pub made_outer : in_use U s s.outer ≡ outer
    unfolding state
    made_outer = take_at outer _ (chain_words U * n) made.outer_size

    pub made_waits : waiting U s ≡ waits
    unfolding state
    made_waits = take_at waits _ (bytes % block_bytes U) made.waits_size

    pub made_fed : (piece ws : List ℕ) (at : ℕ) → feed M s piece ws at
        ≡ fed_from M n bytes inner outer waits piece ws at
    unfolding state
    made_fed piece ws at = feed_reads M s piece ws at ∙ rw (made_inner, made_outer, made_waits)

    pub made_finished : (ws : List ℕ) (at : ℕ) → finish M s ws at ≡ finished_from M n bytes inner outer waits ws at
    unfolding state
    made_finished ws at = finish_reads M s ws at ∙ rw (made_inner, made_outer, made_waits)

-- ---- nothing fed leaves a state as it is
pub nothing : (M : Masked) (n bytes : ℕ) (inner outer waits ws : List ℕ) (at : ℕ) → block_bytes M.standard ≡ 64
    → length waits ≡ bytes % block_bytes M.standard
    → fed_from M n bytes inner outer waits [] ws at ≡ (state M n bytes inner outer waits, at)
unfolding full_blocks
nothing M n bytes inner outer waits ws at sixty-four size =
    let B = block_bytes M.standard in
    let none : length waits / B ≡ 0 = ap (λ l. l / B) size ∙ tail_short B sixty-four bytes in
    rw (append-nil waits, none, zero-mul B, add-zero bytes)

-- ---- two pieces, one after the other, are one piece
module _ (M : Masked) (n bytes : ℕ) (inner outer waits : List ℕ) (sixty-four : block_bytes M.standard ≡ 64)
    (waits_size : length waits ≡ bytes % block_bytes M.standard) (p : List ℕ) where
  abbrev wide : ℕ
  wide = block_bytes M.standard

  abbrev first : List ℕ
  first = waits ++ p

  abbrev many : ℕ
  many = length first / wide

  abbrev rest : List ℕ
  rest = drop (many * wide) first

  pub rest_size : length rest ≡ (bytes + length p) % wide
  rest_size =
      length-drop (many * wide) first ∙ left_over wide sixty-four (length first)
      ∙ ap (λ l. l % wide) (length-append waits p ∙ ap (λ l. l + length p) waits_size)
      ∙ tail_after wide sixty-four bytes (length p)

  module _ (q : List ℕ) where
    whole : waits ++ (p ++ q) ≡ first ++ q
    whole = sym (append_assoc waits p q)

    pub dropped : drop (many * wide) (first ++ q) ≡ rest ++ q
    dropped = drop-append-le (many * wide) first q (whole_part wide sixty-four (length first))

    pub counted_so : length (first ++ q) / wide ≡ many + length (rest ++ q) / wide
    counted_so =
        ap (λ l. l / wide)
        (length-append first q
        ∙ omega (
          arith,
          length-append rest q,
          length-drop (many * wide) first,
          whole_part wide sixty-four
              (length first),
        ))
        ∙ whole_and wide sixty-four many (length (rest ++ q))

    pub ends_so : (let more = length (rest ++ q) / wide in
        drop ((many + more) * wide) (first ++ q) ≡ drop (more * wide) (rest ++ q))
    ends_so =
        let more = length (rest ++ q) / wide in
        ap (λ t. drop t (first ++ q)) (add-mul many more wide)
        ∙ sym (drop-drop (more * wide) (many * wide) (first ++ q))
        ∙ ap (drop (more * wide)) dropped

    pub joined : (ws : List ℕ) (at : ℕ)
        → fed_from M n bytes inner outer waits (p ++ q) ws at
        ≡ (let r = full_blocks M n many first inner ws at in fed_from M n (bytes + length p) r.0 outer rest q ws
        r.1)
    joined ws at =
        let more = length (rest ++ q) / wide in
        let all : bytes + length (p ++ q) ≡ bytes + length p + length q = omega (arith, length-append p q) in
        rw (
          whole,
          counted_so,
          ends_so,
          all,
          full_append M n many more (first ++ q) inner ws at,
          dropped,
          full_front M n many first q inner ws at (whole_part wide sixty-four (length first)),
        )
