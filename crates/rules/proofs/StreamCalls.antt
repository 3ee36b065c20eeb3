-- The streaming calls on any state that has its type's sizes: what their rules draw where their tests are passed.
use Prim.Native.Nat.{ℕ, ◌+◌, ◌*◌, ◌%◌, ◌≤◌, ◌<◌}
use mathlib.Core.Path.{◌≡◌, refl, ap, ◌∙◌}
use mathlib.Core.Bool.{Bool, true}
use mathlib.Core.List.{List, [], ◌∷◌}
use native.Mathlib.Nat.{zero-add}
use native.Mathlib.Omega.{arith}
use lib.Dec.{lit<, eqb, leb}
use lib.ListN.{length}
use lib.Seq.{length-take-le}
use borrow.Author.Tests.{eqb-true, leb-true}
use Rattle.rules.specs.declared.Answer.{Answer}
use Rattle.rules.specs.declared.Sha256Chain.{Sha256Chain}
use Rattle.rules.specs.declared.State.{State}
use Rattle.rules.specs.Supply.{Rule}
use Rattle.rules.specs.Numbers.{largest, longest_message, allowed, Test, test, first, settled}
use Rattle.rules.specs.Hash.{Hash, block_bytes, chain_words, digest_bytes}
use Rattle.rules.specs.Sha1.{open_words}
use Rattle.rules.specs.Hmac.{Masked}
use Rattle.rules.specs.Counts.{start_draws, feed_draws, finish_draws, standard_of, hash_of}
use Rattle.rules.specs.Stream.{state_room, in_use, waiting, fit, is_fit, start, feed, finish}
use Rattle.rules.specs.Stream.{start_words}
use Rattle.rules.specs.Stream.{feed_words, finish_words}
use Rattle.rules.specs.Stream.{streamed, feed_call, finish_call, closed}
use Rattle.rules.specs.Calls.{query, call}
use Rattle.rules.specs.Outcome.{Whole}
use Rattle.rules.proofs.Rule.{said, alike}
use Rattle.rules.proofs.Allowed.{within}
use Rattle.rules.proofs.Bytes.{length_all_bytes}
use Rattle.rules.proofs.Goods.{Goods, goods_size, length_open}
use Rattle.rules.proofs.Hashes.{Proper}
use Rattle.rules.proofs.MaskedHmac.{Keeps}
use Rattle.rules.proofs.Sizes.{Sized, words_size, hash_size, chain_fits}
use Rattle.rules.proofs.Tags.{hash_proper}
use Rattle.rules.proofs.Streaming.{start_rule, feed_reads, finish_reads, fed_rule, finished_rule, rest_size}
use Rattle.rules.proofs.Streaming.{made_whole}
use Rattle.std.specs.Prelude.{Result, Ok, Err, IsErrAnd}
use Rattle.rules.specs.declared.Refusal.{Refusal}
use Rattle.rules.specs.Refusals.{refusal_number, answer_of}
use Rattle.rules.proofs.Calls.{answer, not_done, passed, holds, one_more, tells, settled_refused, refused_at}
use Rattle.rules.proofs.Tested.{needs, taken, fits}

module _ (M : Masked) (s : State) (some : 0 < s.n) (keeps : Keeps M s.n (λ v. Unit {0}) (Sized s.n))
    (sixty-four : block_bytes M.standard ≡ 64) (room : chain_words M.standard * s.n ≤ state_room) where
  abbrev H : Hash
  H = M.standard

  pub waits_size : length s.tail ≡ 64 → length (waiting H s) ≡ s.bytes % block_bytes H
  waits_size whole = length-take-le (s.bytes % block_bytes H) s.tail (rw sixty-four (omega arith))

  in_use_lem : (chain : Sha256Chain) → length chain.shares ≡ state_room
      → Goods (Sized s.n) (chain_words H) (in_use H s chain) (open_words s.n (chain_words H) (in_use H s chain))
  in_use_lem chain whole =
      words_size M s.n some keeps (chain_words H) (in_use H s chain)
      (length-take-le (chain_words H * s.n) chain.shares (omega arith))

  module _ (whole : Whole s) where
    pub feed_sized : (piece : List ℕ) → Rule (feed_draws M s.n s.bytes (length piece)) Whole (feed M s piece)
    feed_sized piece =
        let waits = waits_size whole.tail_whole in
        let outer = in_use H s s.outer in
        alike (feed_reads M s piece)
        (said
        (fed_rule keeps s.bytes (waiting H s) waits (in_use_lem s.inner whole.inner_whole) outer piece (λ j i. tt))
        refl
        (λ t f. rw f.is (made_whole M s.n _ _ _ _ (record {
          inner_size = goods_size keeps.size f.good;
          outer_size = goods_size keeps.size (in_use_lem s.outer whole.outer_whole);
          waits_size = rest_size M s.n s.bytes [] outer (waiting H s) sixty-four waits piece;
        }) sixty-four room)))

    pub finish_sized : Proper H → Rule (finish_draws M s.n s.bytes) (λ t. length t ≡ digest_bytes H) (finish M s)
    finish_sized proper =
        alike (finish_reads M s)
        (said
        (finished_rule keeps s.bytes (waiting H s) (waits_size whole.tail_whole)
        (in_use_lem s.inner whole.inner_whole)
        proper some (in_use_lem s.outer whole.outer_whole) (λ i. tt))
        refl
        (λ t f.
        ap length f.is
        ∙ length_all_bytes H.word_bytes (open_words s.n (chain_words H) f.chain)
        ∙ ap (λ t. t * H.word_bytes) (length_open s.n (chain_words H) f.chain)))

-- the number so far, or, where that is 0, what one more test gives
abbrev also : ℕ → Test → ℕ
also number t = settled number t number

fit_taken : {fits : Bool} → fits ≡ true → first (test 6 fits ∷ []) ≡ 0
unfolding first test
fit_taken h = rw h

fit_grown : {fits short : Bool} → fits ≡ true → short ≡ true → first (test 6 fits ∷ test 4 short ∷ []) ≡ 0
unfolding first test
fit_grown h e = rw (h, e)

-- ==== the hashes as the calls take them
module _ (code : ℕ) where
  abbrev M : Masked
  M = hash_of 32 code

  abbrev tag_size : ℕ
  tag_size = digest_bytes (standard_of 32 code)

  pub start_needs : (n : ℕ) (key ws : List ℕ) (asked need : ℕ)
      → first (test 1 (allowed n) ∷ test 2 (eqb (length key) (16 * n)) ∷ []) ≡ 0 → start_words M n ≡ answer asked need
      → (start M n key ws 0).1 ≡ need
  start_needs n key ws asked need h e =
      let p = passed _ h in
      let count = holds _ _ p.0 in
      let some = (within n count).0 in
      let size = eqb-true (length key) (16 * n) (holds _ _ p.1.0) in
      let keeps = hash_size 32 (lit< tt) code n some in
      needs (start_draws M n) asked need _ ws e (taken count)
      (start_rule keeps (hash_proper 32 code) some (words_size M n some keeps 16 key size))

  -- ---- a call on a state asks its query, and then makes its own tests; what its callee may ask once they are passed
  module _ (n bytes drawn finished hash have need : ℕ) where
    abbrev taken_so : Bool
    taken_so = fit M n bytes drawn finished hash

    pub feed_ready : (l : ℕ)
        → query (test 6 taken_so ∷ test 4 (leb (bytes + l) longest_message) ∷ []) (feed_draws M n bytes l)
        ≡ answer 0 need
        → need ≤ have
        → (0 < n) × (n ≤ largest) × (bytes + l ≤ longest_message) × (0 + feed_draws M n bytes l ≤ have)
    feed_ready l e enough =
        let none = ap (λ (a : Answer). a.number) e in
        let p = passed _ none in
        let count = within n (fits M n bytes drawn finished hash (holds _ _ p.0)).0 in
        (count.0, count.1, leb-true _ _ (holds _ _ p.1.0), rw (zero-add, tells _ _ _ _ e none) enough)

    pub finish_ready : query (test 6 taken_so ∷ []) (finish_draws M n bytes) ≡ answer 0 need
        → need ≤ have
        → (0 < n) × (n ≤ largest) × (bytes ≤ longest_message) × (0 + finish_draws M n bytes ≤ have)
    finish_ready e enough =
        let none = ap (λ (a : Answer). a.number) e in
        let parts = fits M n bytes drawn finished hash (holds _ _ (passed _ none).0) in
        let count = within n parts.0 in
        (count.0, count.1, parts.1, rw (zero-add, tells _ _ _ _ e none) enough)

  -- ---- each rule draws what its query tells, of any state that has its type's sizes
  module _ (s : State) (ws : List ℕ) (asked need : ℕ) (whole : Whole s) where
    counted : is_fit M s ≡ true → allowed s.n ≡ true
    counted h = (fits M s.n s.bytes s.drawn s.finished s.hash h).0

    pub feed_needs : (piece : List ℕ)
        → first (test 6 (is_fit M s) ∷ test 4 (leb (s.bytes + length piece) longest_message) ∷ []) ≡ 0
        → feed_words M s (length piece) ≡ answer asked need → (feed M s piece ws 0).1 ≡ need
    feed_needs piece h e =
        let count = counted (holds _ _ (passed _ h).0) in
        let some = (within s.n count).0 in
        needs (feed_draws M s.n s.bytes (length piece)) asked need _ ws e h
        (feed_sized M s some (hash_size 32 (lit< tt) code s.n some) refl
        (chain_fits 32 code s.n (within s.n count).1) whole piece)

    pub finish_needs : (came : List ℕ) → first (test 6 (is_fit M s) ∷ test 3 (eqb (length came) tag_size) ∷ []) ≡ 0
        → finish_words M s ≡ answer asked need → (finish M s ws 0).1 ≡ need
    finish_needs came h e =
        let fit = holds _ _ (passed _ h).0 in
        let count = within s.n (counted fit) in
        let some = count.0 in
        needs (finish_draws M s.n s.bytes) asked need _ ws e (fit_taken fit)
        (finish_sized M s some (hash_size 32 (lit< tt) code s.n some) refl
        (chain_fits 32 code s.n count.1) whole (hash_proper 32 code))

  -- ---- refused, by its query or by its own tests: a feed with the state as it was given, a finish with the tag's bytes
  -- too
  module _ (s : State) (ws : List ℕ) (asked need number : ℕ) (whole : Whole s) (fails : number ≡ 0 → ⊥) where
    pub feed_refused : (piece : List ℕ) → feed_words M s (length piece) ≡ answer asked need
        → number ≡ also asked (test 5 (leb need (length ws)))
        → feed_call M s piece ws ≡ streamed (answer number 0) s
    unfolding feed_call
    feed_refused piece e is =
        ap (λ (o : Answer × State). streamed o.0 o.1)
        (refused_at (_ ∷ _ ∷ []) (feed M s piece) s ws need number
        (one_more (_ ∷ _ ∷ []) _ asked number (ap (λ (a : Answer). a.number) e) is)
        (λ z. feed_needs s ws asked need whole piece z e) fails)

    pub finish_refused : (came : List ℕ) → finish_words M s ≡ answer asked need
        → number ≡ also (also asked (test 3 (eqb (length came) tag_size))) (test 5 (leb need (length ws)))
        → finish_call M s came ws ≡ (streamed (answer number 0) s, came)
    unfolding finish_call
    finish_refused came e is =
        let two = one_more (_ ∷ []) (test 3 (eqb (length came) tag_size)) asked _ (ap (λ (a : Answer). a.number) e)
        refl in
        ap (λ (o : Answer × List ℕ). (streamed o.0 (settled o.0.number (closed s) s), o.1))
        (refused_at (_ ∷ _ ∷ []) (finish M s) came ws need number (one_more (_ ∷ _ ∷ []) _ _ number two is)
        (λ z. finish_needs s ws asked need whole came z e) fails)
        ∙ rw (settled_refused number (closed s) s fails)

-- ---- the calls' outcomes, from those of their tests and rules
pub fed : (M : Masked) (s : State) (piece ws : List ℕ) {o : Answer × State}
    → call (test 6 (is_fit M s) ∷ test 4 (leb (s.bytes + length piece) longest_message) ∷ []) (feed M s piece) s ws ≡ o
    → feed_call M s piece ws ≡ streamed o.0 o.1
unfolding feed_call
fed M s piece ws e = ap (λ (o : Answer × State). streamed o.0 o.1) e

pub finished : (M : Masked) (s : State) (came ws : List ℕ) {o : Answer × List ℕ}
    → call (test 6 (is_fit M s) ∷ test 3 (eqb (length came) (digest_bytes M.standard)) ∷ []) (finish M s) came ws ≡ o
    → finish_call M s came ws ≡ (streamed o.0 (settled o.0.number (closed s) s), o.1)
unfolding finish_call
finished M s came ws e = ap (λ (o : Answer × List ℕ). (streamed o.0 (settled o.0.number (closed s) s), o.1)) e

-- a refused finish leaves the state
pub finished_refused : (M : Masked) (s : State) (came ws : List ℕ) (refusal : Refusal) (made : Result ℕ Refusal)
    → IsErrAnd made (λ r. r ≡ refusal)
    → call (test 6 (is_fit M s) ∷ test 3 (eqb (length came) (digest_bytes M.standard)) ∷ []) (finish M s) came ws
    ≡ (answer_of made, came)
    → finish_call M s came ws ≡ (streamed (answer_of made) s, came)
finished_refused M s came ws refusal (Ok drawn) h e = elim h [ ]
finished_refused M s came ws refusal (Err r) h e =
    finished M s came ws e
    ∙ ap (λ (t : State). (streamed (answer_of (Err r)) t, came))
    (settled_refused (refusal_number r) (closed s) s (not_done r))
