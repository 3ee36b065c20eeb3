-- Any run of calls from an accepted start, accepted and refused: what the state counts, and that it is fit unless
-- finished. crates/claims has it of the calls.
use Prim.Native.Nat.{ℕ, zero, suc, ◌+◌, ◌*◌, ◌≤◌, ◌<◌}
use mathlib.Core.Path.{◌≡◌, refl, sym, ap, ap₂, ◌∙◌, subst}
use mathlib.Core.Bool.{Bool, true, false}
use mathlib.Core.List.{List, [], ◌∷◌}
use native.Mathlib.Nat.{zero-add, add-zero}
use native.Mathlib.Omega.{arith}
use lib.ListN.{length}
use Rattle.rules.specs.declared.State.{State}
use Rattle.rules.specs.declared.Streamed.{Streamed}
use Rattle.rules.specs.Numbers.{largest, longest_message, allowed, test, first, settled}
use Rattle.rules.specs.Hash.{block_bytes, chain_words}
use Rattle.rules.specs.Hmac.{Masked}
use Rattle.rules.specs.Counts.{feed_draws, state_draws, hash_of}
use Rattle.rules.specs.Calls.{call}
use Rattle.rules.specs.Stream.{state_room, is_fit, state, feed, start_call, feed_call, finish_call, closed, Reached}
use Rattle.rules.specs.Stream.{starts, feeds, finishes}
use Rattle.rules.specs.Outcome.{Fit, Whole}
use Rattle.rules.proofs.Allowed.{within}
use Rattle.rules.proofs.Hashes.{Proper}
use Rattle.rules.proofs.MaskedHmac.{Keeps}
use Rattle.rules.proofs.Sizes.{Sized, hash_size, chain_fits}
use Rattle.rules.proofs.Tags.{hash_proper}
use Rattle.rules.proofs.Outcomes.{says_fit, passed as says_passed}
use Rattle.rules.proofs.Calls.{settled_refused}
use Rattle.rules.proofs.Streaming.{state_count, state_next, made_whole}
use Rattle.rules.proofs.Runs.{fed_state, fed_drawn, fed_short}
use Rattle.rules.proofs.StreamCalls.{feed_sized}
use Rattle.rules.proofs.AtStreams.{start_drawn, start_asked, start_place, begun}

-- ---- a refused feed
module _ (M : Masked) (s : State) (piece ws : List ℕ) (no : (feed_call M s piece ws).number ≡ 0 → ⊥) where
  pub refused_state : (feed_call M s piece ws).state ≡ s
  unfolding feed_call call
  refused_state = settled_refused _ _ s no

  pub refused_drawn : (feed_call M s piece ws).drawn ≡ 0
  unfolding feed_call call
  refused_drawn = settled_refused _ _ 0 no

-- ---- a finish, accepted or refused
pub finished_state : (M : Masked) (s : State) (came ws : List ℕ) → (let r = (finish_call M s came ws).0 in
    r.state ≡ settled r.number (closed s) s)
unfolding finish_call
finished_state M s came ws = refl

pub finished_count : (M : Masked) (s : State) (came ws : List ℕ) → (finish_call M s came ws).0.state.drawn ≡ s.drawn
finished_count M s came ws =
    ap (λ (t : State). t.drawn) (finished_state M s came ws) ∙ go (finish_call M s came ws).0.number
  where
    go : (number : ℕ) → (settled number (closed s) s).drawn ≡ s.drawn
    go zero = refl
    go (suc number) = refl

-- ---- a fit state is never refused with 6
never_six : (fit b c : Bool) (j : ℕ) → fit ≡ true → (suc j ≡ 6 → ⊥)
    → first (test 6 fit ∷ test (suc j) b ∷ test 5 c ∷ []) ≡ 6 → ⊥
unfolding first test
never_six true true true j e other h = absurd (omega arith)
never_six true true false j e other h = absurd (omega arith)
never_six true false c j e other h = other h
never_six false b c j e other h = let z : ◌≡◌ {A = ℕ} 0 1 = cc in absurd (omega arith)

module _ (M : Masked) (s : State) (fit : Fit M s) where
  taken : is_fit M s ≡ true
  taken = says_passed (says_fit M s) fit

  pub fed_not_six : (piece ws : List ℕ) → (feed_call M s piece ws).number ≡ 6 → ⊥
  unfolding feed_call call
  fed_not_six piece ws = never_six _ _ _ 3 taken (λ h. absurd (omega arith))

  pub finished_not_six : (came ws : List ℕ) → (finish_call M s came ws).0.number ≡ 6 → ⊥
  unfolding finish_call call
  finished_not_six came ws = never_six _ _ _ 2 taken (λ h. absurd (omega arith))

-- ---- the counts of a state in a run
pub record Counted (M : Masked) (n bytes words : ℕ) (s : State) : Type 0 where
  pub shares : s.n ≡ n
  pub taken_bytes : s.bytes ≡ bytes
  pub drawn_words : s.drawn ≡ words
  pub of_hash : s.hash ≡ M.code
  pub allowed_shares : allowed n ≡ true
  pub not_past : bytes ≤ longest_message
  pub by_rule : words ≡ state_draws M n bytes
  pub whole : Whole s

module _ (M : Masked) (proper : Proper M.standard) (sixty-four : block_bytes M.standard ≡ 64)
    (sizes : (n : ℕ) → 0 < n → Keeps M n (λ v. Unit {0}) (Sized n))
    (room : (n : ℕ) → n ≤ largest → chain_words M.standard * n ≤ state_room) (n : ℕ) where
  begun_counts : (key ws : List ℕ) → (start_call M n key ws).number ≡ 0
      → (let r = start_call M n key ws in Counted M n 0 r.drawn r.state)
  unfolding state begun
  begun_counts key ws ok =
      let allow = (start_asked M n key ws ok).0 in
      let clean = begun M proper sixty-four sizes n key ws ok in
      let words : (start_call M n key ws).drawn ≡ state_draws M n 0 =
      start_drawn M n key ws ok ∙ start_place M proper sixty-four sizes n key ws ok
      ∙ sym (state_count M n 0 sixty-four) in
      subst (Counted M n 0 (start_call M n key ws).drawn) (sym clean.is)
      (record {
        shares = refl;
        taken_bytes = refl;
        drawn_words = sym words;
        of_hash = refl;
        allowed_shares = allow;
        not_past = omega arith;
        by_rule = words;
        whole = made_whole M n 0 clean.inner clean.outer [] clean.made sixty-four (room n (within n allow).1);
      })

  module _ {bytes words : ℕ} {s : State} (counted : Counted M n bytes words s) where
    module _ (piece ws : List ℕ) where
      abbrev r : Streamed
      r = feed_call M s piece ws

      abbrev l : ℕ
      l = length piece

      taken_counts : r.number ≡ 0 → Counted M n (bytes + l) (words + r.drawn) r.state
      unfolding feed state
      taken_counts ok =
          let c = counted in
          let count = within n c.allowed_shares in
          let some : 0 < s.n = rw c.shares count.0 in
          let few : chain_words M.standard * s.n ≤ state_room = rw c.shares (room n count.1) in
          let rule = feed_sized M s some (sizes s.n some) sixty-four few c.whole piece in
          let draws : r.drawn ≡ feed_draws M n bytes l =
          fed_drawn M s piece ws ok ∙ rule.place ws 0 ∙ zero-add _ ∙ rw (c.shares, c.taken_bytes) in
          let all : words + r.drawn ≡ state_draws M n (bytes + l) =
          ap₂ (λ a b. a + b) c.by_rule draws ∙ state_next M n bytes l sixty-four in
          subst (Counted M n (bytes + l) (words + r.drawn)) (sym (fed_state M s piece ws ok))
          (record {
            shares = c.shares;
            taken_bytes = ap (λ b. b + l) c.taken_bytes;
            drawn_words = ap₂ (state_draws M) c.shares (ap (λ b. b + l) c.taken_bytes) ∙ sym all;
            of_hash = refl;
            allowed_shares = c.allowed_shares;
            not_past = rw c.taken_bytes at (fed_short M s piece ws ok);
            by_rule = all;
            whole = rule.makes ws 0;
          })

      fed_counts : (number : ℕ) → r.number ≡ number
          → Counted M n (bytes + settled number l 0) (words + r.drawn) r.state
      fed_counts zero e = taken_counts e
      fed_counts (suc m) e =
          let no : r.number ≡ 0 → ⊥ = λ z. absurd (omega arith) in
          rw (refused_state M s piece ws no, refused_drawn M s piece ws no, add-zero bytes, add-zero words) counted

    finished_counts : (number : ℕ) → Counted M n bytes words (settled number (closed s) s)
    finished_counts (suc m) = counted
    finished_counts zero =
        let c = counted in
        record {
          shares = c.shares;
          taken_bytes = c.taken_bytes;
          drawn_words = c.drawn_words;
          of_hash = c.of_hash;
          allowed_shares = c.allowed_shares;
          not_past = c.not_past;
          by_rule = c.by_rule;
          whole = record {
            inner_whole = c.whole.inner_whole;
            outer_whole = c.whole.outer_whole;
            tail_whole = c.whole.tail_whole;
          };
        }

  pub reached_counts : {bytes words : ℕ} {s : State} → Reached M n bytes words s → Counted M n bytes words s
  reached_counts (starts key ws e ok) =
      subst (λ (r : Streamed). Counted M n 0 r.drawn r.state) e
      (begun_counts key ws (ap (λ (r : Streamed). r.number) e ∙ ok))
  reached_counts (feeds piece ws {bytes} {words} {s} run e) =
      subst
      (λ (r : Streamed). Counted M n (bytes + settled r.number (length piece) 0) (words + r.drawn) r.state) e
      (fed_counts (reached_counts run) piece ws _ refl)
  reached_counts (finishes came tag ws {bytes} {words} {s} run e) =
      subst (λ (r : Streamed × List ℕ). Counted M n bytes words r.0.state) e
      (subst (Counted M n bytes words) (sym (finished_state M s came ws))
      (finished_counts (reached_counts run) (finish_call M s came ws).0.number))

  -- so it is fit unless it is finished
  pub reached_fit : {bytes words : ℕ} {s : State} → Reached M n bytes words s → s.finished ≡ 0 → Fit M s
  reached_fit {s = s} run unmarked =
      let c = reached_counts run in
      let count = within n c.allowed_shares in
      record {
        allowed_shares = rw c.shares count;
        not_past = rw c.taken_bytes c.not_past;
        unfinished = unmarked;
        of_hash = c.of_hash;
        drawn_so = c.drawn_words ∙ c.by_rule ∙ sym (ap₂ (state_draws M) c.shares c.taken_bytes);
      }

-- ==== the hashes of the calls, at any width
module _ (k : ℕ) (wide : 0 < k) (code : ℕ) {n bytes words : ℕ} {s : State}
    (run : Reached (hash_of k code) n bytes words s) where
  pub hash_counts : Counted (hash_of k code) n bytes words s
  hash_counts =
      reached_counts (hash_of k code) (hash_proper k code) refl (hash_size k wide code) (chain_fits k code) n run

  pub hash_fit : s.finished ≡ 0 → Fit (hash_of k code) s
  hash_fit = reached_fit (hash_of k code) (hash_proper k code) refl (hash_size k wide code) (chain_fits k code) n run
