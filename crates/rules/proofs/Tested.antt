-- What each kind of call tests: once that was passed, what its callee may ask, and that its rule draws what its query
-- tells. Which tests a call has is said here alone of all proofs.
use Prim.Native.Nat.{ℕ, ◌+◌, ◌*◌, ◌-◌, ◌^◌, ◌≤◌, ◌<◌}
use mathlib.Core.Path.{◌≡◌, sym, ◌∙◌}
use mathlib.Core.Bool.{Bool, true}
use mathlib.Core.List.{List, [], ◌∷◌}
use native.Mathlib.Nat.{zero-add, mul-le-mul_left}
use native.Mathlib.Omega.{arith}
use lib.Dec.{eqb, leb}
use lib.ListN.{length, get_or}
use mir.Syntax.{w32}
use mir.Val.{Fits}
use borrow.Author.Tests.{eqb-true, leb-true}
use Rattle.rules.specs.Supply.{Draw, Rule, split}
use Rattle.rules.specs.Numbers.{largest, longest_key, longest_message, both, power, allowed, Test, test, first}
use Rattle.rules.specs.Shares.{refresh, expand, and, add}
use Rattle.rules.specs.Convert.{to_bool, to_arith}
use Rattle.rules.specs.Short.{to_arith_short}
use Rattle.rules.specs.Counts.{refresh_draws, and_draws, add_draws, to_bool_draws, to_arith_draws, short_draws}
use Rattle.rules.specs.Counts.{key_draws, hmac_draws, standard_of, hash_of}
use Rattle.rules.specs.Hash.{chain_words, digest_bytes}
use Rattle.rules.specs.Hmac.{Masked, chain_room, used, split_key, hmac_tag}
use Rattle.rules.specs.Calls.{one_tests, two_tests, query, compressed}
use Rattle.rules.specs.Stream.{fit}
use Rattle.rules.proofs.Openings.{opened_lt}
use Rattle.rules.proofs.Pairs.{refresh_rule, and_rule}
use Rattle.rules.proofs.Addition.{add_loop_rule, expand_rule, split_rule}
use Rattle.rules.proofs.Conversion.{add_adds, refresh_refreshes, to_bool_rule, to_arith_rule}
use Rattle.rules.proofs.Short.{to_arith_short_rule}
use Rattle.rules.proofs.Sizes.{Sized, hash_size, compress_sized, hmac_tag_sized, split_key_sized}
use Rattle.rules.proofs.Tags.{hash_proper}
use Rattle.rules.proofs.MaskedHmac.{Keeps}
use Rattle.rules.proofs.Loops.{length_used}
use Rattle.rules.proofs.Allowed.{both_true, power_within, within}
use Rattle.rules.proofs.Calls.{answer, passed, holds, tells}

-- a query refuses nothing of a share count that is taken, with a text that fits
pub taken : {counted : Bool} → counted ≡ true → first (test 1 counted ∷ []) ≡ 0
unfolding first test
taken h = rw h

taken_text : (n : ℕ) (fits : Bool) → allowed n ≡ true → fits ≡ true → first (test 1 (allowed n) ∷ test 4 fits ∷ []) ≡ 0
unfolding first test
taken_text n fits h e = rw (h, e)

-- ---- what the callee of each kind of call may ask: the lengths, the share count and the room
pub record Ready (most n drawn have : ℕ) : Type 0 where
  pub some : 0 < n
  pub few : n ≤ most
  pub room : 0 + drawn ≤ have

ready : {most n : ℕ} (drawn have asked need : ℕ) (tests : List Test) → query tests drawn
    ≡ answer asked need → first tests ≡ 0
    → (0 < n) × (n ≤ most) → test 5 (leb need have) ≡ 0 → Ready most n drawn have
ready drawn have asked need tests e h count enough =
    let enough' = leb-true _ _ (holds _ _ enough) in
    record { some = count.0; few = count.1; room = rw (zero-add, tells tests drawn asked need e h) enough' }

module _ {n have number : ℕ} {asked need : ℕ} where
  -- by the length x of an input of n shares, where d n words are drawn; m n shares out
  module _ (d : ℕ → ℕ) {x y : ℕ} where
    counted_ready : {most : ℕ} (counted : ℕ → Bool) → ((n : ℕ) → counted n ≡ true → (0 < n) × (n ≤ most)) → (m : ℕ → ℕ)
        → query (test 1 (counted n) ∷ []) (d n) ≡ answer asked need
        → first (test 1 (counted n) ∷ test 2 (eqb x n) ∷ test 3 (eqb y (m n)) ∷ test 5 (leb need have) ∷ [])
        ≡ number
        → number ≡ 0 → (x ≡ n) × (y ≡ m n) × Ready most x (d x) have
    counted_ready counted bounds m e is z =
        let p = passed _ (is ∙ z) in
        let count = holds _ _ p.0 in
        let size = eqb-true x n (holds _ _ p.1.0) in
        let room = ready (d n) have _ _ _ e (taken count) (bounds n count) p.1.1.1.0 in
        (size, eqb-true y (m n) (holds _ _ p.1.1.0), rw size room)

    pub one_ready : (m : ℕ → ℕ) → query (test 1 (allowed n) ∷ []) (d n) ≡ answer asked need
        → first (test 1 (allowed n) ∷ test 2 (eqb x n) ∷ test 3 (eqb y (m n)) ∷ test 5 (leb need have) ∷ [])
        ≡ number
        → number ≡ 0 → (x ≡ n) × (y ≡ m n) × Ready largest x (d x) have
    one_ready = counted_ready allowed within

    pub short_ready : query (test 1 (power n) ∷ []) (d n) ≡ answer asked need
        → first (test 1 (power n) ∷ test 2 (eqb x n) ∷ test 3 (eqb y n) ∷ test 5 (leb need have) ∷ []) ≡ number
        → number ≡ 0 → (x ≡ n) × (y ≡ n) × Ready 8 x (d x) have
    short_ready = counted_ready power power_within (λ n. n)

    pub two_ready : {z : ℕ} → query (test 1 (allowed n) ∷ []) (d n) ≡ answer asked need
        → first (test 1 (allowed n) ∷ test 2 (both (eqb x n) (eqb y n)) ∷ test 3 (eqb z n) ∷ test 5 (leb need have)
        ∷ []) ≡ number
        → number ≡ 0 → (x ≡ n) × (y ≡ n) × (z ≡ n) × Ready largest x (d x) have
    two_ready {z} e is h =
        let p = passed _ (is ∙ h) in
        let count = holds _ _ p.0 in
        let sizes = both_true _ _ (holds _ _ p.1.0) in
        let size = eqb-true x n sizes.0 in
        let room = ready (d n) have _ _ _ e (taken count) (within n count) p.1.1.1.0 in
        (size, eqb-true y n sizes.1, eqb-true z n (holds _ _ p.1.1.0), rw size room)

  module _ {drawn : ℕ} (e : query (test 1 (allowed n) ∷ []) drawn ≡ answer asked need) {x : ℕ} where
    pub split_ready : first (test 1 (allowed n) ∷ test 3 (eqb x n) ∷ test 5 (leb need have) ∷ []) ≡ number
        → number ≡ 0 → (x ≡ n) × Ready largest n drawn have
    split_ready is z =
        let p = passed _ (is ∙ z) in
        let count = holds _ _ p.0 in
        (eqb-true x n (holds _ _ p.1.0), ready drawn have _ _ _ e (taken count) (within n count) p.1.1.0)

    pub block_ready : first (test 1 (allowed n) ∷ test 2 (eqb x (16 * n)) ∷ test 5 (leb need have) ∷ []) ≡ number
        → number ≡ 0 → (x ≡ 16 * n) × Ready largest n drawn have
    block_ready is z =
        let p = passed _ (is ∙ z) in
        let count = holds _ _ p.0 in
        (eqb-true x (16 * n) (holds _ _ p.1.0), ready drawn have _ _ _ e (taken count) (within n count) p.1.1.0)

  module _ {drawn : ℕ} {fits : Bool} (e : query (test 1 (allowed n) ∷ test 4 fits ∷ []) drawn
      ≡ answer asked need) {x : ℕ} where
    pub key_ready : first (test 1 (allowed n) ∷ test 3 (eqb x (16 * n)) ∷ test 4 fits ∷ test 5 (leb need have) ∷ [])
        ≡ number
        → number ≡ 0 → (x ≡ 16 * n) × (fits ≡ true) × Ready largest n drawn have
    key_ready is z =
        let p = passed _ (is ∙ z) in
        let count = holds _ _ p.0 in
        let short = holds _ _ p.1.1.0 in
        let room = ready drawn have _ _ _ e (taken_text n _ count short) (within n count) p.1.1.1.0 in
        (eqb-true x (16 * n) (holds _ _ p.1.0), short, room)

    pub tag_ready : {sized : Bool}
        → first (test 1 (allowed n) ∷ test 2 (eqb x (16 * n)) ∷ test 3 sized ∷ test 4 fits ∷ test 5 (leb need have)
        ∷ []) ≡ number
        → number ≡ 0 → (x ≡ 16 * n) × (sized ≡ true) × (fits ≡ true) × Ready largest n drawn have
    tag_ready is z =
        let p = passed _ (is ∙ z) in
        let count = holds _ _ p.0 in
        let short = holds _ _ p.1.1.1.0 in
        let room = ready drawn have _ _ _ e (taken_text n _ count short) (within n count) p.1.1.1.1.0 in
        (eqb-true x (16 * n) (holds _ _ p.1.0), holds _ _ p.1.1.0, short, room)

-- ---- streaming: a state that is fit, and a piece that does not pass the limit
module _ (M : Masked) (n bytes drawn finished hash : ℕ) where
  pub fits : fit M n bytes drawn finished hash ≡ true → (allowed n ≡ true) × (bytes ≤ longest_message)
  unfolding fit
  fits h =
      let inside = both_true (allowed n) _ (both_true (both (allowed n) (leb bytes longest_message)) _ h).0 in
      (inside.0, leb-true bytes longest_message inside.1)

  module _ (taken : Bool) (is : taken ≡ fit M n bytes drawn finished hash) where
    pub fit_ready : first (test 6 taken ∷ []) ≡ 0 → (allowed n ≡ true) × (bytes ≤ longest_message)
    fit_ready h = fits (sym is ∙ holds _ _ (passed _ h).0)

    pub piece_ready : (all : ℕ) → first (test 6 taken ∷ test 4 (leb all longest_message) ∷ []) ≡ 0
        → (allowed n ≡ true) × (all ≤ longest_message)
    piece_ready all h =
        let p = passed _ h in
        ((fits (sym is ∙ holds _ _ p.0)).0, leb-true all longest_message (holds _ _ p.1.0))

pub key_fits : (n l : ℕ) → first (test 1 (allowed n) ∷ test 4 (leb l longest_key) ∷ []) ≡ 0
    → (allowed n ≡ true) × (l ≤ longest_key)
key_fits n l h = let p = passed _ h in (holds _ _ p.0, leb-true l longest_key (holds _ _ p.1.0))

-- a message that is not too long is far from what 64 bits can count
pub short_text : (l : ℕ) → leb l longest_message ≡ true → 64 + l < 2 ^ 60
short_text l h = omega (arith, leb-true l longest_message h)

-- ---- each rule draws what its query tells, where the tests before the supply were passed
pub needs : {S : Type 0} {P : S → Type 0} {rule : Draw S} (d asked need : ℕ) (tests : List Test) (ws : List ℕ)
    → query tests d ≡ answer asked need → first tests ≡ 0 → Rule d P rule → (rule ws 0).1 ≡ need
needs d asked need tests ws e h r = r.place ws 0 ∙ zero-add d ∙ tells tests d asked need e h

module _ (n : ℕ) (came ws : List ℕ) (asked need : ℕ) where
  pub split_needs : (value : ℕ) → first (test 1 (allowed n) ∷ test 3 (eqb (length came) n) ∷ []) ≡ 0
      → query (test 1 (allowed n) ∷ []) (n - 1) ≡ answer asked need → (split n value ws 0).1 ≡ need
  split_needs value h e =
      let count = holds _ _ (passed _ h).0 in
      needs (n - 1) asked need _ ws e (taken count) (split_rule n value (within n count).0)

  module _ (x : List ℕ) where
    module _ (h : first (one_tests (allowed n) n n x came) ≡ 0) where
      pub refresh_needs : query (test 1 (allowed n) ∷ []) (refresh_draws n)
          ≡ answer asked need → (refresh x ws 0).1 ≡ need
      refresh_needs e =
          let p = passed _ h in
          needs (refresh_draws n) asked need _ ws e (taken (holds _ _ p.0))
          (refresh_rule n x (eqb-true (length x) n (holds _ _ p.1.0)))

      module _ (w : (i : ℕ) → Fits w32 (get_or x i 0)) where
        pub to_bool_needs : query (test 1 (allowed n) ∷ []) (to_bool_draws (add_draws 32) n) ≡ answer asked need
            → (to_bool (add 32) x ws 0).1 ≡ need
        to_bool_needs e =
            let p = passed _ h in
            let count = holds _ _ p.0 in
            let size = eqb-true (length x) n (holds _ _ p.1.0) in
            let some = (within n count).0 in
            needs (to_bool_draws (add_draws 32) (length x)) asked need _ ws (rw size e) (taken count)
            (to_bool_rule 32 (add_draws 32) (add 32) (add_adds 32 (omega arith)) x (omega arith) (λ i. (w i).fits))

        pub to_arith_needs : query (test 1 (allowed n) ∷ []) (to_arith_draws (add_draws 32) refresh_draws n)
            ≡ answer asked need
            → (to_arith 32 (add 32) refresh x ws 0).1 ≡ need
        to_arith_needs e =
            let p = passed _ h in
            let count = holds _ _ p.0 in
            let size = eqb-true (length x) n (holds _ _ p.1.0) in
            let some = (within n count).0 in
            let secret = opened_lt 32 x (λ i. (w i).fits) in
            let added = add_adds 32 (omega arith) in
            needs (to_arith_draws (add_draws 32) refresh_draws (length x)) asked need _ ws (rw size e) (taken count)
            (to_arith_rule 32 (add_draws 32) (add 32) added refresh_draws refresh refresh_refreshes x (omega arith)
            secret)

    pub to_arith_short_needs : first (one_tests (power n) n n x came) ≡ 0
        → query (test 1 (power n) ∷ []) (short_draws n) ≡ answer asked need → (to_arith_short 32 x ws 0).1 ≡ need
    to_arith_short_needs h e =
        let p = passed _ h in
        let size = eqb-true (length x) n (holds _ _ p.1.0) in
        needs (short_draws (length x)) asked need _ ws (rw size e) (taken (holds _ _ p.0)) (to_arith_short_rule 32 x)

    pub expand_needs : first (one_tests (allowed n) n (2 * n) x came) ≡ 0 → query (test 1 (allowed n) ∷ []) n
        ≡ answer asked need
        → (expand x ws 0).1 ≡ need
    expand_needs h e =
        let p = passed _ h in
        needs n asked need _ ws e (taken (holds _ _ p.0)) (expand_rule n x (eqb-true (length x) n (holds _ _ p.1.0)))

    module _ (y : List ℕ) (h : first (two_tests n x y came) ≡ 0) where
      count_two : allowed n ≡ true
      count_two = holds _ _ (passed _ h).0

      sizes_two : (length x ≡ n) × (length y ≡ n)
      sizes_two = let s = both_true _ _ (holds _ _ (passed _ h).1.0) in
          (eqb-true (length x) n s.0, eqb-true (length y) n s.1)

      pub and_needs : query (test 1 (allowed n) ∷ []) (and_draws n) ≡ answer asked need → (and x y ws 0).1 ≡ need
      and_needs e = needs (and_draws n) asked need _ ws e (taken count_two) (and_rule n x y sizes_two.0 sizes_two.1)

      pub add_needs : (k : ℕ) → 0 < k → query (test 1 (allowed n) ∷ []) (add_draws k n) ≡ answer asked need
          → (add k x y ws 0).1 ≡ need
      add_needs k wide e =
          needs (add_draws k n) asked need _ ws e (taken count_two) (add_loop_rule k n x y wide sizes_two.0 sizes_two.1)

module _ (code n : ℕ) (came ws : List ℕ) (asked need : ℕ) where
  abbrev M : Masked
  M = hash_of 32 code

  keeps : allowed n ≡ true → Keeps M n (λ v. Unit {0}) (Sized n)
  keeps count = hash_size 32 (omega arith) code n (within n count).0

  pub split_key_needs : (key : List ℕ)
      → first (test 1 (allowed n) ∷ test 3 (eqb (length came) (16 * n)) ∷ test 4 (leb (length key) longest_key) ∷ [])
      ≡ 0
      → query (test 1 (allowed n) ∷ test 4 (leb (length key) longest_key) ∷ []) (key_draws M n (length key))
      ≡ answer asked need
      → (split_key M n key ws 0).1 ≡ need
  split_key_needs key h e =
      let p = passed _ h in
      let count = holds _ _ p.0 in
      needs (key_draws M n (length key)) asked need _ ws e (taken_text n _ count (holds _ _ p.1.1.0))
      (split_key_sized M n (within n count).0 (keeps count) (hash_proper 32 code) key)

  pub hmac_tag_needs : (key text : List ℕ)
      → first
      (test 1 (allowed n) ∷ test 2 (eqb (length key) (16 * n))
      ∷ test 3 (eqb (length came) (digest_bytes (standard_of 32 code))) ∷ test 4 (leb (length text) longest_message)
      ∷ []) ≡ 0
      → query (test 1 (allowed n) ∷ test 4 (leb (length text) longest_message) ∷ []) (hmac_draws M n (length text))
      ≡ answer asked need
      → (hmac_tag M n key text ws 0).1 ≡ need
  hmac_tag_needs key text h e =
      let p = passed _ h in
      let count = holds _ _ p.0 in
      let size = eqb-true (length key) (16 * n) (holds _ _ p.1.0) in
      needs (hmac_draws M n (length text)) asked need _ ws e (taken_text n _ count (holds _ _ p.1.1.1.0))
      (hmac_tag_sized M n (within n count).0 (keeps count) (hash_proper 32 code) key text size)

  -- a compression into a chain record that has room
  pub compress_needs : (chain block : List ℕ) → length chain ≡ chain_room (standard_of 32 code)
      → first (test 1 (allowed n) ∷ test 2 (eqb (length block) (16 * n)) ∷ []) ≡ 0
      → query (test 1 (allowed n) ∷ []) (M.draws n) ≡ answer asked need → (compressed M n chain block ws 0).1 ≡ need
  compress_needs chain block whole h e =
      let p = passed _ h in
      let count = holds _ _ p.0 in
      let H = standard_of 32 code in
      let room = length_used H n chain (rw whole (mul-le-mul_left (chain_words H) (within n count).1)) in
      let rule = compress_sized M n (within n count).0 (keeps count) (used H n chain) block room
      (eqb-true (length block) (16 * n) (holds _ _ p.1.0)) in
      rule.place ws 0 ∙ zero-add _ ∙ tells _ _ asked need e (taken count)

-- refresh works on a copy, and splitting by the length of its output
pub refresh_copied : (x y ws : List ℕ) (r : List ℕ × ℕ) → y ≡ x → refresh y ws 0 ≡ r → refresh x ws 0 ≡ r
refresh_copied x y ws r e f = rw (← e) f

pub split_sized : (n value need have number : ℕ) (came ws : List ℕ) (r : List ℕ × ℕ)
    → first (test 1 (allowed n) ∷ test 3 (eqb (length came) n) ∷ test 5 (leb need have) ∷ []) ≡ number → number ≡ 0
    → split (length came) value ws 0 ≡ r → split n value ws 0 ≡ r
split_sized n value need have number came ws r is z e = rw
    (eqb-true (length came) n (holds _ _ (passed _ (is ∙ z)).1.0)) at e
