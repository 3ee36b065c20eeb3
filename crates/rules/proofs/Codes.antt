-- Every code but 0 is SHA-256's: which of them a hash has is seen in the mark of a state alone. So a call by a code is
-- the call by the hash of that code, with the mark put back.
use Prim.Native.Nat.{ℕ, zero, suc, ◌*◌}
use mathlib.Core.Path.{◌≡◌, refl, sym, ap, ◌∙◌}
use mathlib.Core.Bool.{Bool, true, false}
use mathlib.Core.List.{List, [], ◌∷◌}
use Rattle.std.specs.Prelude.{Result, Ok, Err}
use native.Mathlib.Omega.{arith}
use lib.Dec.{eqb, leb}
use lib.ListN.{length}
use borrow.Author.Tests.{eq-eqb, ne_eqb}
use Rattle.rules.specs.declared.Algorithm.{Algorithm}
use Rattle.rules.specs.declared.Answer.{Answer}
use Rattle.rules.specs.declared.Refusal.{Refusal}
use Rattle.rules.specs.declared.Refusal.TheVariants.{NotFit}
use Rattle.rules.specs.declared.State.{State}
use Rattle.rules.specs.declared.Streamed.{Streamed}
use Rattle.rules.specs.Refusals.{answer_of, code_of, algorithm_of}
use Rattle.rules.specs.Supply.{Draw}
use Rattle.rules.specs.Numbers.{Test, allowed, both, choose, test, first, settled}
use Rattle.rules.specs.Hash.{block_bytes, digest_bytes}
use Rattle.rules.specs.Hmac.{Masked, key_words, splits, blocks, hash_key, split_key, hmac_shares, hmac_tag}
use Rattle.rules.specs.Counts.{state_draws, standard_of, hash_of}
use Rattle.rules.specs.Calls.{call, split_key_call, compress_call, hmac_call}
use Rattle.rules.specs.Stream.{state, full_blocks, fit, is_fit, start, feed, finish, streamed, closed}
use Rattle.rules.specs.Stream.{start_call, feed_call, finish_call, state_of_zeros}
use Rattle.rules.proofs.Calls.{answer, not_done}

-- the code by which the calls go for a code
abbrev pub known : ℕ → ℕ
known code = code_of (algorithm_of code)

-- a state under another mark
abbrev pub marked : ℕ → State → State
marked code s =
    record {
      n = s.n;
      bytes = s.bytes;
      drawn = s.drawn;
      finished = s.finished;
      hash = code;
      inner = s.inner;
      outer = s.outer;
      tail = s.tail;
    }

-- what a call leaves: what it made, or what came where it is refused
abbrev pub left : {A : Type 0} → Result ℕ Refusal → A → A → A
left (Ok drawn) made came = made
left (Err refusal) made came = came

-- ---- the rules
module _ (k c n : ℕ) where
  blocks_known : (m : ℕ) (W h ws : List ℕ) (at : ℕ)
      → blocks (hash_of k (suc c)) n m W h ws at ≡ blocks (hash_of k 1) n m W h ws at
  unfolding blocks
  blocks_known zero W h ws at = refl
  blocks_known (suc m) W h ws at = blocks_known m _ _ ws _

  full_blocks_known : (m : ℕ) (text h ws : List ℕ) (at : ℕ)
      → full_blocks (hash_of k (suc c)) n m text h ws at ≡ full_blocks (hash_of k 1) n m text h ws at
  unfolding full_blocks
  full_blocks_known zero text h ws at = refl
  full_blocks_known (suc m) text h ws at = full_blocks_known m _ _ ws _

-- a choice of rules
chosen_alike : {S : Type 0} (b : Bool) (one two other : Draw S) (ws : List ℕ) (at : ℕ) → two ws at ≡ other ws at
    → choose b one two ws at ≡ choose b one other ws at
chosen_alike true one two other ws at e = refl
chosen_alike false one two other ws at e = e

hash_key_known : (k c n : ℕ) (key ws : List ℕ) (at : ℕ)
    → hash_key (hash_of k (suc c)) n key ws at ≡ hash_key (hash_of k 1) n key ws at
unfolding hash_key
hash_key_known k c n key ws at = rw (blocks_known k c n)

split_key_known : (k code n : ℕ) (key ws : List ℕ) (at : ℕ)
    → split_key (hash_of k code) n key ws at ≡ split_key (hash_of k (known code)) n key ws at
unfolding split_key
split_key_known k zero n key ws at = refl
split_key_known k (suc c) n key ws at =
    let H = standard_of k (suc c) in
    chosen_alike (leb (length key) (block_bytes H)) (splits n (key_words H 16 key)) (hash_key (hash_of k (suc c)) n key)
    (hash_key (hash_of k 1) n key) ws at (hash_key_known k c n key ws at)

hmac_known : (k code n : ℕ) (key text ws : List ℕ) (at : ℕ)
    → hmac_tag (hash_of k code) n key text ws at ≡ hmac_tag (hash_of k (known code)) n key text ws at
unfolding hmac_tag hmac_shares
hmac_known k zero n key text ws at = refl
hmac_known k (suc c) n key text ws at = rw (blocks_known k c n)

-- ---- the calls on keys and messages, which leave no mark
call_alike : {S : Type 0} (tests : List Test) (one other : Draw S) (came : S) (ws : List ℕ) → one ws 0 ≡ other ws 0
    → call tests one came ws ≡ call tests other came ws
unfolding call
call_alike tests one other came ws e = rw e

pub split_key_by : (k code n : ℕ) (algorithm : Algorithm) (key came ws : List ℕ) {o : Answer × List ℕ}
    → algorithm ≡ algorithm_of code → split_key_call (hash_of k (code_of algorithm)) n key came ws ≡ o
    → split_key_call (hash_of k code) n key came ws ≡ o
split_key_by k code n algorithm key came ws e p =
    call_alike _ _ _ came ws (split_key_known k code n key ws 0) ∙ (rw e at p)

pub compress_by : (k code n : ℕ) (algorithm : Algorithm) (chain block ws : List ℕ) {o : Answer × List ℕ}
    → algorithm ≡ algorithm_of code → compress_call (hash_of k (code_of algorithm)) n chain block ws ≡ o
    → compress_call (hash_of k code) n chain block ws ≡ o
compress_by k zero n algorithm chain block ws e p = rw e at p
compress_by k (suc c) n algorithm chain block ws e p = rw e at p

pub hmac_by : (k code n : ℕ) (algorithm : Algorithm) (key text came ws : List ℕ) {o : Answer × List ℕ}
    → algorithm ≡ algorithm_of code → hmac_call (hash_of k (code_of algorithm)) n key text came ws ≡ o
    → hmac_call (hash_of k code) n key text came ws ≡ o
hmac_by k zero n algorithm key text came ws e p = rw e at p
hmac_by k (suc c) n algorithm key text came ws e p =
    call_alike _ _ _ came ws (hmac_known k (suc c) n key text ws 0) ∙ (rw e at p)

pub standard_by : (k code : ℕ) (algorithm : Algorithm) → algorithm ≡ algorithm_of code
    → standard_of k code ≡ standard_of k (code_of algorithm)
standard_by k zero algorithm e = rw e
standard_by k (suc c) algorithm e = rw e

-- ---- the calls on states: the state that is handed back has the code's mark
-- what a call comes to, by its number
abbrev outcome : {S : Type 0} → ℕ → ℕ → S → S → Answer × S
outcome number drawn made came = (answer number (settled number drawn 0), settled number made came)

-- one beside another that makes the same but for what `f` does
by_number : {S : Type 0} (number drawn : ℕ) (made came : S) (r : Result ℕ Refusal) (s : S) (f : S → S) (kept : S)
    → outcome number drawn made came ≡ (answer_of r, s)
    → outcome number drawn (f made) kept ≡ (answer_of r, left r (f s) kept)
by_number zero drawn made came (Ok d) s f kept e = ap (λ (o : Answer × _). (o.0, f o.1)) e
by_number zero drawn made came (Err refusal) s f kept e =
    absurd (not_done refusal (sym (ap (λ (o : Answer × _). o.0.number) e)))
by_number (suc m) drawn made came (Ok d) s f kept e =
    let no : suc m ≡ 0 = ap (λ (o : Answer × _). o.0.number) e in
    absurd (omega arith)
by_number (suc m) drawn made came (Err refusal) s f kept e = ap (λ (o : Answer × _). (o.0, kept)) e

call_by : {S : Type 0} (tests : List Test) (one other : Draw S) (came : S) (ws : List ℕ) (f : S → S) (kept : S)
    (r : Result ℕ Refusal) (s : S) → other ws 0 ≡ (f (one ws 0).0, (one ws 0).1)
    → call tests one came ws ≡ (answer_of r, s) → call tests other kept ws ≡ (answer_of r, left r (f s) kept)
unfolding call
call_by tests one other came ws f kept r s e p =
    rw e (by_number _ (one ws 0).1 (one ws 0).0 came r s f kept p)

-- a refused call leaves what came
kept_by_number : {S : Type 0} (number drawn : ℕ) (made came s : S) (refusal : Refusal)
    → outcome number drawn made came ≡ (answer_of (Err refusal), s) → s ≡ came
kept_by_number zero drawn made came s refusal e =
    absurd (not_done refusal (sym (ap (λ (o : Answer × _). o.0.number) e)))
kept_by_number (suc m) drawn made came s refusal e = sym (ap (λ (o : Answer × _). o.1) e)

pub call_keeps : {S : Type 0} (tests : List Test) (rule : Draw S) (came : S) (ws : List ℕ) (refusal : Refusal) (s : S)
    → call tests rule came ws ≡ (answer_of (Err refusal), s) → s ≡ came
unfolding call
call_keeps tests rule came ws refusal s e = kept_by_number _ (rule ws 0).1 (rule ws 0).0 came s refusal e

start_made : (k code n : ℕ) (key ws : List ℕ) → (let one = start (hash_of k (known code)) n key ws 0 in
    start (hash_of k code) n key ws 0 ≡ (marked code one.0, one.1))
unfolding start state state_draws
start_made k zero n key ws = refl
start_made k (suc c) n key ws = refl

pub start_by : (k code n : ℕ) (algorithm : Algorithm) (key ws : List ℕ) (came : State) (r : Result ℕ Refusal)
    (s : State) → algorithm ≡ algorithm_of code
    → call (test 1 (allowed n) ∷ test 2 (eqb (length key) (16 * n)) ∷ []) (start (hash_of k (code_of algorithm)) n key)
    came ws ≡ (answer_of r, s)
    → start_call (hash_of k code) n key ws ≡ streamed (answer_of r) (left r (marked code s) state_of_zeros)
unfolding start_call
start_by k code n algorithm key ws came r s e p =
    ap (λ (o : Answer × State). streamed o.0 o.1)
    (call_by _ _ _ came ws (marked code) state_of_zeros r s (start_made k code n key ws) (rw e at p))

feed_made : (k code : ℕ) (s : State) (piece ws : List ℕ)
    → (let one = feed (hash_of k (known code)) (marked (known code) s) piece ws 0 in
    feed (hash_of k code) s piece ws 0 ≡ (marked code one.0, one.1))
unfolding feed state state_draws
feed_made k zero s piece ws = refl
feed_made k (suc c) s piece ws = rw (full_blocks_known k c s.n)

finish_made : (k code : ℕ) (s : State) (ws : List ℕ)
    → finish (hash_of k code) s ws 0 ≡ finish (hash_of k (known code)) (marked (known code) s) ws 0
unfolding finish
finish_made k zero s ws = refl
finish_made k (suc c) s ws = rw (blocks_known k c s.n)

fit_marked : (k code : ℕ) (s : State) → s.hash ≡ code
    → is_fit (hash_of k code) s ≡ is_fit (hash_of k (known code)) (marked (known code) s)
unfolding fit state_draws
fit_marked k zero s e = rw e
fit_marked k (suc c) s e = rw (e, eq-eqb (suc c) (suc c) refl)

pub feed_by : (k code : ℕ) (algorithm : Algorithm) (s : State) (piece ws : List ℕ) (r : Result ℕ Refusal) (t : State)
    → s.hash ≡ code → algorithm ≡ algorithm_of code
    → feed_call (hash_of k (code_of algorithm)) (marked (code_of algorithm) s) piece ws ≡ streamed (answer_of r) t
    → feed_call (hash_of k code) s piece ws ≡ streamed (answer_of r) (left r (marked code t) s)
unfolding feed_call
feed_by k code algorithm s piece ws r t e f p =
    rw (fit_marked k code s e)
    (ap (λ (o : Answer × State). streamed o.0 o.1)
    (call_by _ _ _ (marked (known code) s) ws (marked code) s r t (feed_made k code s piece ws)
    (ap (λ (o : Streamed). (answer o.number o.drawn, o.state)) (rw f at p))))

closed_by : (code number a : ℕ) (s : State) → s.hash ≡ code
    → marked code (settled number (closed (marked a s)) (marked a s)) ≡ settled number (closed s) s
closed_by code zero a s e = ap (λ (h : ℕ). marked h (closed s)) (sym e)
closed_by code (suc m) a s e = ap (λ (h : ℕ). marked h s) (sym e)

abbrev finish_outcome : Masked → State → List ℕ → List ℕ → Answer × List ℕ
finish_outcome M s came ws =
    call (test 6 (is_fit M s) ∷ test 3 (eqb (length came) (digest_bytes M.standard)) ∷ []) (finish M s) came ws

finish_alike : (k code : ℕ) (s : State) (came ws : List ℕ) → s.hash ≡ code
    → finish_outcome (hash_of k code) s came ws
    ≡ finish_outcome (hash_of k (known code)) (marked (known code) s) came ws
finish_alike k code s came ws e =
    call_alike _ (finish (hash_of k code) s) (finish (hash_of k (known code)) (marked (known code) s)) came ws
    (finish_made k code s ws)
    ∙ ap (λ (ts : List Test). call ts (finish (hash_of k (known code)) (marked (known code) s)) came ws) (tests code e)
  where
    tests : (code : ℕ) → s.hash ≡ code
        → test 6 (is_fit (hash_of k code) s) ∷ test 3 (eqb (length came) (digest_bytes (standard_of k code))) ∷ []
        ≡ test 6 (is_fit (hash_of k (known code)) (marked (known code) s))
        ∷ test 3 (eqb (length came) (digest_bytes (standard_of k (known code)))) ∷ []
    tests zero e = rw (fit_marked k zero s e)
    tests (suc c) e = rw (fit_marked k (suc c) s e)

pub finish_by : (k code : ℕ) (algorithm : Algorithm) (s : State) (came ws tag : List ℕ) (r : Result ℕ Refusal)
    (t : State) → s.hash ≡ code → algorithm ≡ algorithm_of code
    → finish_call (hash_of k (code_of algorithm)) (marked (code_of algorithm) s) came ws
    ≡ (streamed (answer_of r) t, tag)
    → finish_call (hash_of k code) s came ws ≡ (streamed (answer_of r) (marked code t), tag)
unfolding finish_call
finish_by k code algorithm s came ws tag r t e f p =
    let one = finish_outcome (hash_of k (known code)) (marked (known code) s) came ws in
    ap (λ (o : Answer × List ℕ). (streamed o.0 (settled o.0.number (closed s) s), o.1)) (finish_alike k code s came ws e)
    ∙ ap (λ (u : State). (streamed one.0 u, one.1)) (sym (closed_by code one.0.number (known code) s e))
    ∙ ap (λ (o : Streamed × List ℕ). (streamed (answer o.0.number o.0.drawn) (marked code o.0.state), o.1)) (rw f at p)

-- a state under another mark is refused before all else
unfit : (k code : ℕ) (s : State) → (s.hash ≡ code → ⊥) → is_fit (hash_of k code) s ≡ false
unfolding fit
unfit k code s other = rw (ne_eqb s.hash code other) (never _ _)
  where
    never : (a b : Bool) → both a (both b false) ≡ false
    never true true = refl
    never true false = refl
    never false b = refl

pub feed_unfit : (k code : ℕ) (s : State) (piece ws : List ℕ) → (s.hash ≡ code → ⊥)
    → feed_call (hash_of k code) s piece ws ≡ streamed (answer_of (Err NotFit)) s
unfolding feed_call call first test
feed_unfit k code s piece ws other = rw (unfit k code s other)

pub finish_unfit : (k code : ℕ) (s : State) (came ws : List ℕ) → (s.hash ≡ code → ⊥)
    → finish_call (hash_of k code) s came ws ≡ (streamed (answer_of (Err NotFit)) s, came)
unfolding finish_call call first test
finish_unfit k code s came ws other = rw (unfit k code s other)
