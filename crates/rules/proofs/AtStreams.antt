-- Runs of the streaming calls from an accepted start: any cutting, the count, and the tag; and what the three calls
-- come to on any state. crates/claims has them of each hash.
use Prim.Native.Nat.{ℕ, ◌+◌, ◌*◌, ◌/◌, ◌%◌, ◌^◌, ◌≤◌, ◌<◌}
use mathlib.Core.Path.{◌≡◌, refl, sym, ap, ◌∙◌}
use mathlib.Core.Bool.{true}
use mathlib.Core.List.{List, [], ◌∷◌, append-nil}
use native.Mathlib.Nat.{zero-add, add-mul}
use native.Mathlib.Omega.{arith}
use lib.ListN.{length, take, drop}
use lib.Pow.{pow_pos}
use lib.Dec.{eqb, lit<}
use borrow.Author.Tests.{eqb-true}
use Rattle.rules.specs.declared.Answer.{Answer}
use Rattle.rules.specs.declared.State.{State}
use Rattle.rules.specs.declared.Streamed.{Streamed}
use Rattle.rules.specs.Supply.{Rule, Words}
use Rattle.rules.specs.Numbers.{longest_message, allowed, Test, test}
use Rattle.rules.specs.Hash.{Hash, block_bytes, chain_words, digest_bytes, words_of, all_bytes, key_block, hmac}
use Rattle.rules.specs.Sha1.{open_words}
use Rattle.rules.specs.Hmac.{Masked}
use Rattle.rules.specs.Counts.{start_draws, compressions, standard_of, hash_of}
use Rattle.rules.specs.Calls.{call, hmac_call}
use Rattle.rules.specs.Stream.{state_room, Feeds, is_fit, state, state_of_zeros, start, feed, finish, streamed}
use Rattle.rules.specs.Stream.{start_call}
use Rattle.rules.specs.Stream.{feed_call, finish_call, closed, ReadAlike, message, after, drawn, Accepted}
use Rattle.rules.specs.Outcome.{Allowed, Fit, Whole, Asks, Done, Settles}
use Rattle.rules.proofs.Rule.{said, counted}
use Rattle.rules.proofs.Allowed.{within}
use Rattle.rules.proofs.Bytes.{bytes_are_words, all_bytes_are_bytes, length_all_bytes, words_back}
use Rattle.rules.proofs.Conversion.{words_drop}
use Rattle.rules.proofs.Goods.{Goods, goods_size, goods_open, length_open}
use Rattle.rules.proofs.Hashes.{Chains, Proper, ending_words, key_bytes, hmac_of_is}
use Rattle.rules.proofs.MaskedHmac.{Keeps}
use Rattle.rules.proofs.Sizes.{Sized, words_size, hash_size, each_draws, compress_count, chain_fits}
use Rattle.rules.proofs.Tags.{hash_proper, hash_chains, hmac_tag_is}
use Rattle.rules.proofs.Outcomes.{says_count, says_eq, says_le, says_fit}
use Rattle.rules.proofs.Outcomes.{settles, settled_three, call_settles, call_draws, call_past}
use Rattle.rules.proofs.Opens.{Masks, masks, hash_opens}
use Rattle.rules.proofs.Streaming.{Readable, start_rule, feed_alike, finish_alike}
use Rattle.rules.proofs.Runs.{Clean, holds_none, holds_run, tag_rule, any_cutting, run_counts, run_clean}
use Rattle.rules.proofs.Runs.{finish_counts}
use Rattle.rules.proofs.Runs.{finished_tag, finished_drawn}
use Rattle.rules.proofs.Calls.{passed, holds}
use Rattle.rules.proofs.AtCalls.{words_opened}
use Rattle.rules.proofs.StreamCalls.{feed_sized, finish_sized}

-- ---- an accepted start
module _ (M : Masked) (n : ℕ) (key ws : List ℕ) (ok : (start_call M n key ws).number ≡ 0) where
  pub start_state : (start_call M n key ws).state ≡ (start M n key ws 0).0
  unfolding start_call call
  start_state = rw ok

  pub start_drawn : (start_call M n key ws).drawn ≡ (start M n key ws 0).1
  unfolding start_call call
  start_drawn = rw ok

  pub start_asked : (allowed n ≡ true) × (length key ≡ 16 * n)
  unfolding start_call call
  start_asked = let p = passed _ ok in (holds _ _ p.0, eqb-true (length key) (16 * n) (holds _ _ p.1.0))

-- ---- whatever the shares open to
module _ (M : Masked) (proper : Proper M.standard) (sixty-four : block_bytes M.standard ≡ 64)
    (sizes : (n : ℕ) → 0 < n → Keeps M n (λ v. Unit {0}) (Sized n))
    (n : ℕ) (key ws : List ℕ) (ok : (start_call M n key ws).number ≡ 0) where
  pub some : 0 < n
  some = (within n (start_asked M n key ws ok).0).0

  abbrev s : State
  s = (start_call M n key ws).state

  unfoldable pub begun : Clean M n some (sizes n some) sixty-four s
  begun =
      let keeps = sizes n some in
      let g = (start_rule keeps proper some
      (words_size M n some keeps 16 key (start_asked M n key ws ok).1)).makes ws 0 in
      record {
        bytes = 0;
        inner = g.inner;
        outer = g.outer;
        waits = [];
        made = record {
          inner_size = goods_size keeps.size g.inner_good;
          outer_size = goods_size keeps.size g.outer_good;
          waits_size = rw sixty-four refl;
        };
        is = start_state M n key ws ok ∙ g.is;
      }

  begin_bytes : s.bytes ≡ 0
  unfolding start state
  begin_bytes = ap (λ (t : State). t.bytes) (start_state M n key ws ok)

  pub start_place : (start M n key ws 0).1 ≡ start_draws M n
  start_place =
      let keeps = sizes n some in
      (start_rule keeps proper some (words_size M n some keeps 16 key (start_asked M n key ws ok).1)).place ws 0
      ∙ zero-add _

  pub cut_anyhow : (fs gs : Feeds) → Accepted M s fs → Accepted M s gs → message fs ≡ message gs
      → drawn M s fs ≡ drawn M s gs → after M s fs ≡ after M s gs
  cut_anyhow = any_cutting M n some (sizes n some) sixty-four s begun

  -- the words of start, of the feeds and of finish: those of all compressions of the message
  pub all_words : (fs : Feeds) → Accepted M s fs → (came vs : List ℕ)
      → (let o = (finish_call M (after M s fs) came vs).0 in
      o.number ≡ 0
      → (start_call M n key ws).drawn + length (drawn M s fs) + o.drawn
      ≡ compressions M.standard (length (message fs)) * M.draws n)
  all_words fs taken came vs done =
      let keeps = sizes n some in
      let end = after M s fs in
      let d = M.draws n in
      let L = length (message fs) in
      let c = M.standard.length_bytes in
      let fed = run_counts M n some keeps sixty-four fs s begun taken in
      let none : s.bytes ≡ 0 = begin_bytes in
      let last = finish_counts M n some keeps sixty-four proper end
      (run_clean M n some keeps sixty-four fs s begun taken) in
      let sum : 2 + (0 % 64 + L) / 64 + ((L % 64 + c) / 64 + 2) ≡ (L + c) / 64 + 4 = omega arith in
      let started = start_drawn M n key ws ok ∙ start_place in
      let middle : length (drawn M s fs) ≡ (0 % 64 + L) / 64 * d = fed.0 ∙ rw (none, sixty-four) in
      let finished : (finish_call M end came vs).0.drawn ≡ ((L % 64 + c) / 64 + 2) * d =
      finished_drawn M end came vs done ∙ last.place vs 0 ∙ zero-add _ ∙ rw (fed.1, none, zero-add, sixty-four) in
      let x = (0 % 64 + L) / 64 in
      let w = (L % 64 + c) / 64 + 2 in
      rw (started, middle, finished, sixty-four)
      (sym (add-mul (2 + x) w d ∙ ap (λ t. t + w * d) (add-mul 2 x d)) ∙ ap (λ t. t * d) sum)

-- ---- opened: the tag of a run is the standard's, from shares that open to the padded key
module _ (M : Masked) (proper : Proper M.standard) (chains : Chains M.standard)
    (sixty-four : block_bytes M.standard ≡ 64)
    (opens : (n : ℕ) → 0 < n → Keeps M n (λ v. v < 2 ^ (8 * M.standard.word_bytes))
    (Masks (8 * M.standard.word_bytes) n))
    (n : ℕ) (shares ws : List ℕ) (ok : (start_call M n shares ws).number ≡ 0) where
  abbrev H : Hash
  H = M.standard

  abbrev k : ℕ
  k = 8 * H.word_bytes

  some_shares : 0 < n
  some_shares = (within n (start_asked M n shares ws ok).0).0

  pub run_tag : (key : List ℕ) → Words 8 key
      → open_words n 16 shares ≡ words_of H.word_bytes 16 (key_block H key)
      → (fs : Feeds) → Words 8 (message fs) → (let s = (start_call M n shares ws).state in
      Accepted M s fs → (came vs : List ℕ) → (let o = finish_call M (after M s fs) came vs in
      o.0.number ≡ 0 → o.1 ≡ hmac H key (message fs)))
  run_tag key keys shared fs bytes taken came vs done =
      let keeps = opens n some_shares in
      let KEY = words_of H.word_bytes 16 (key_block H key) in
      let small : Words k KEY = bytes_are_words H.word_bytes 16 (key_block H key)
      (key_bytes H proper chains key keys) in
      let good : Goods (Masks k n) 16 shares KEY =
      rw shared at (masks k n 16 shares (start_asked M n shares ws ok).1 (rw shared small)) in
      let g = (start_rule keeps proper some_shares good).makes ws 0 in
      let begin = holds_none keeps proper sixty-four KEY _ g.inner g.outer (start_state M n shares ws ok ∙ g.is)
      g.inner_good g.outer_good in
      let m = message fs in
      let none : Words 8 [] = λ i. pow_pos 8 in
      let reads : (t : List ℕ) → Words 8 t → Readable keeps t =
      λ t b j i. bytes_are_words H.word_bytes 16 (drop j t) (words_drop 8 j t b) i in
      let end = holds_run keeps proper sixty-four KEY reads fs [] _ begin none bytes taken in
      let rest = words_drop 8 (length m / block_bytes H * block_bytes H) m bytes in
      let tag = (tag_rule keeps proper sixty-four KEY m _ end some_shares (ending_words H proper _ _ rest)).makes vs 0
      in
      finished_tag M _ came vs done ∙ tag.is
      ∙ ap (all_bytes H.word_bytes) (goods_open (λ x X g. (g.0, g.1)) tag.good)
      ∙ hmac_of_is H proper chains key keys m

-- ==== the hashes of the calls: runs, at any width and, opened, at 32 bits
module _ (k : ℕ) (h : 0 < k) (code n : ℕ) (key ws : List ℕ) (ok : (start_call (hash_of k code) n key ws).number ≡ 0)
  where
    abbrev W : Masked
    W = hash_of k code

    abbrev u : State
    u = (start_call W n key ws).state

    pub hash_cuts : (fs gs : Feeds) → Accepted W u fs → Accepted W u gs → message fs ≡ message gs
        → drawn W u fs ≡ drawn W u gs → after W u fs ≡ after W u gs
    hash_cuts = cut_anyhow W (hash_proper k code) refl (hash_size k h code) n key ws ok

    pub hash_words : (fs : Feeds) → Accepted W u fs → (came vs : List ℕ)
        → (let o = (finish_call W (after W u fs) came vs).0 in o.number ≡ 0
        → (start_call W n key ws).drawn + length (drawn W u fs) + o.drawn
        ≡ ((length (message fs) + 8) / 64 + 4) * W.draws n)
    hash_words = all_words W (hash_proper k code) refl (hash_size k h code) n key ws ok

module _ (code : ℕ) where
  abbrev M : Masked
  M = hash_of 32 code

  abbrev J : Hash
  J = standard_of 32 code

  pub hash_tag : (n : ℕ) (shares ws : List ℕ) → (start_call M n shares ws).number ≡ 0
      → (key : List ℕ) → Words 8 key → open_words n 16 shares ≡ words_of 4 16 (key_block J key)
      → (fs : Feeds) → Words 8 (message fs) → (let s = (start_call M n shares ws).state in
      Accepted M s fs → (came vs : List ℕ) → (let o = finish_call M (after M s fs) came vs in
      o.0.number ≡ 0 → o.1 ≡ hmac J key (message fs)))
  hash_tag = run_tag M (hash_proper 32 code) (hash_chains code) refl (hash_opens code)

  -- any key of 16 words is the key block of its own bytes
  key_opens : (n : ℕ) (shares : List ℕ) → Words 32 shares → (let key = all_bytes 4 (open_words n 16 shares) in
      (length key ≡ 64) × Words 8 key × (open_words n 16 shares ≡ words_of 4 16 (key_block J key)))
  unfolding key_block
  key_opens n shares words =
      let w = open_words n 16 shares in
      let key = all_bytes 4 w in
      let many : length w ≡ 16 = length_open n 16 shares in
      let size : length key ≡ 64 = length_all_bytes 4 w ∙ ap (λ t. t * 4) many in
      let back = rw many at (words_back 4 w (words_opened 32 n 16 shares words)) in
      (size, all_bytes_are_bytes 4 w, rw (size, size) (sym (ap (words_of 4 16) (append-nil key) ∙ back)))

  -- the one-call form's tag of the same
  module _ (n : ℕ) (key text : List ℕ) (words : Words 32 key) (bytes : Words 8 text) where
    abbrev K : List ℕ
    K = all_bytes 4 (open_words n 16 key)

    pub streamed_tag : (ws : List ℕ) → (start_call M n key ws).number ≡ 0 → (fs : Feeds) → message fs ≡ text
        → (let s = (start_call M n key ws).state in
        Accepted M s fs → (came vs : List ℕ) → (let o = finish_call M (after M s fs) came vs in
        o.0.number ≡ 0 → o.1 ≡ hmac J K text))
    streamed_tag ws ok fs is taken came vs done =
        let k = key_opens n key words in
        hash_tag n key ws ok K k.1 k.2 fs (rw is bytes) taken came vs done ∙ ap (hmac J K) is

    pub one_call_tag : (came us : List ℕ) → (hmac_call M n key text came us).0.number ≡ 0
        → (hmac_call M n key text came us).1 ≡ hmac J K text
    unfolding call
    one_call_tag came us ok =
        let p = passed _ ok in
        let some = (within n (holds _ _ p.0)).0 in
        let size = eqb-true (length key) (16 * n) (holds _ _ p.1.0) in
        let k = key_opens n key words in
        rw ok
        (hmac_tag_is M n some (hash_proper 32 code) (hash_chains code) (hash_opens code n some) K text key us 0
        k.1 bytes size k.2)

  -- ==== what the calls come to, on any state that has its type's sizes
  abbrev d : ℕ → ℕ
  d n = each_draws code n

  module _ (n : ℕ) (key ws : List ℕ) where
    abbrev begins : Streamed
    begins = start_call M n key ws

    start_law : Allowed n → length key ≡ 16 * n → Rule (2 * d n) (λ t. Unit {0}) (start M n key)
    start_law count size =
        let keeps = hash_size 32 (lit< tt) code n count.0 in
        said
        (start_rule keeps (hash_proper 32 code) count.0 (words_size M n count.0 keeps 16 key size))
        (ap (λ t. 2 * t) (compress_count code n)) (λ t g. tt)

    pub start_outcome : Settles {A = State × ℕ}
        (Asks (Allowed n) 1 (Asks (length key ≡ 16 * n) 2 (Asks (2 * d n ≤ length ws) 5 Done)))
        begins.number (start M n key ws 0) (state_of_zeros, 0) (begins.state, begins.drawn)
    unfolding start_call
    start_outcome =
        call_settles 0 1 (2 * d n) (start M n key) (says_count n) (says_eq (length key) (16 * n)) start_law _ ws

    pub start_count : begins.number ≡ 0 → begins.drawn ≡ 2 * d n
    unfolding start_call
    start_count =
        call_draws 0 1 (2 * d n) (start M n key) (says_count n) (says_eq (length key) (16 * n)) start_law _ ws

    pub start_past : begins.number ≡ 0 → (vs : List ℕ) → take (2 * d n) ws ≡ take (2 * d n) vs
        → begins ≡ start_call M n key vs
    unfolding start_call
    start_past ok vs same =
        ap (λ (o : Answer × State). streamed o.0 o.1)
        (call_past 0 1 (2 * d n) (start M n key) (says_count n) (says_eq (length key) (16 * n)) start_law _ ws ok
        (start M n key) _ vs refl same)

  module _ (s : State) (whole : Whole s) (ws : List ℕ) where
    fit_some : Fit M s → 0 < s.n
    fit_some fit = fit.allowed_shares.0

    fit_few : Fit M s → chain_words J * s.n ≤ state_room
    fit_few fit = chain_fits 32 code s.n fit.allowed_shares.1

    -- ---- feed
    module _ (piece : List ℕ) where
      abbrev feeds : Streamed
      feeds = feed_call M s piece ws

      abbrev fed_words : ℕ
      fed_words = (s.bytes % 64 + length piece) / 64 * d s.n

      feed_law : Fit M s → s.bytes + length piece ≤ longest_message
          → Rule fed_words Whole (feed M s piece)
      feed_law fit short =
          counted
          (feed_sized M s (fit_some fit) (hash_size 32 (lit< tt) code s.n (fit_some fit)) refl (fit_few fit) whole
          piece)
          (ap (λ t. (s.bytes % 64 + length piece) / 64 * t) (compress_count code s.n))

      pub feed_outcome : Settles {A = State × ℕ}
          (Asks (Fit M s) 6 (Asks (s.bytes + length piece ≤ longest_message) 4
          (Asks (fed_words ≤ length ws) 5 Done)))
          feeds.number (feed M s piece ws 0) (s, 0) (feeds.state, feeds.drawn)
      unfolding feed_call
      feed_outcome =
          call_settles 5 3 fed_words (feed M s piece) (says_fit M s)
          (says_le (s.bytes + length piece) longest_message) feed_law s ws

      pub feed_count : feeds.number ≡ 0 → feeds.drawn ≡ fed_words
      unfolding feed_call
      feed_count =
          call_draws 5 3 fed_words (feed M s piece) (says_fit M s)
          (says_le (s.bytes + length piece) longest_message) feed_law s ws

      -- what is not read of the state and of the supply has no say
      pub feed_past : feeds.number ≡ 0 → (t : State) (vs : List ℕ) → ReadAlike J s t
          → take fed_words ws ≡ take fed_words vs → feeds ≡ feed_call M t piece vs
      unfolding feed_call
      feed_past ok t vs alike same =
          ap (λ (o : Answer × State). streamed o.0 o.1)
          (call_past 5 3 fed_words (feed M s piece) (says_fit M s)
          (says_le (s.bytes + length piece) longest_message) feed_law s ws ok
          (feed M t piece) t vs (feed_alike M s t alike piece vs 0) same
          ∙ rw (alike.counts, alike.bytes_fed, alike.words_drawn, alike.marks, alike.hashes))

    -- ---- finish
    module _ (came : List ℕ) where
      abbrev ends : Streamed × List ℕ
      ends = finish_call M s came ws

      abbrev finished_words : ℕ
      finished_words = ((s.bytes % 64 + 8) / 64 + 2) * d s.n

      finish_law : Fit M s → length came ≡ digest_bytes J → Rule finished_words (λ t. length t ≡ digest_bytes J)
          (finish M s)
      finish_law fit size =
          counted
          (finish_sized M s (fit_some fit) (hash_size 32 (lit< tt) code s.n (fit_some fit)) refl (fit_few fit) whole
          (hash_proper 32 code))
          (ap (λ t. ((s.bytes % 64 + 8) / 64 + 2) * t) (compress_count code s.n))

      pub finish_outcome : (let made = finish M s ws 0 in
          Settles {A = State × List ℕ × ℕ}
          (Asks (Fit M s) 6 (Asks (length came ≡ digest_bytes J) 3 (Asks (finished_words ≤ length ws) 5 Done)))
          ends.0.number (closed s, made.0, made.1) (s, came, 0) (ends.0.state, ends.1, ends.0.drawn))
      unfolding finish_call call
      finish_outcome =
          let o = call_settles 5 2 finished_words (finish M s) (says_fit M s)
          (says_eq (length came) (digest_bytes J)) finish_law came ws in
          let made = finish M s ws 0 in
          settles ends.0.number (closed s, made.0, made.1) (s, came, 0) _ o.given
          (settled_three ends.0.number (closed s) s made.0 came made.1 0)

      pub finish_count : ends.0.number ≡ 0 → ends.0.drawn ≡ finished_words
      unfolding finish_call
      finish_count =
          call_draws 5 2 finished_words (finish M s) (says_fit M s)
          (says_eq (length came) (digest_bytes J)) finish_law came ws

      pub finish_past : ends.0.number ≡ 0 → (t : State) (vs : List ℕ) → ReadAlike J s t
          → take finished_words ws ≡ take finished_words vs → (let o = finish_call M t came vs in
          (o.1 ≡ ends.1) × (o.0.number ≡ 0) × (o.0.drawn ≡ ends.0.drawn))
      unfolding finish_call
      finish_past ok t vs alike same =
          let tests : State → List Test = λ u. test 6 (is_fit M u) ∷ test 3 (eqb (length came) (digest_bytes J)) ∷ [] in
          let e : call (tests s) (finish M s) came ws ≡ call (tests t) (finish M t) came vs =
          call_past 5 2 finished_words (finish M s) (says_fit M s)
          (says_eq (length came) (digest_bytes J)) finish_law came ws ok
          (finish M t) came vs (finish_alike M s t alike vs 0) same
          ∙ rw (alike.counts, alike.bytes_fed, alike.words_drawn, alike.marks, alike.hashes) in (
            sym (ap (λ (o : Answer × List ℕ). o.1) e),
            sym (ap (λ (o : Answer × List ℕ). o.0.number) e) ∙ ok,
            sym (ap (λ (o : Answer × List ℕ). o.0.drawn) e),
          )
