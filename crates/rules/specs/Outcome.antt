-- What is said of a call's outcome: the number, what there is afterwards, what it made. crates/claims says it of each
-- call.
use Rattle.std.specs.Prelude.{ℕ, ◌≤◌, ◌≡◌, List, ◌⊎◌, length, take}
use Rattle.rules.specs.declared.Answer.{Answer}
use Rattle.rules.specs.declared.State.{State}
use Rattle.rules.specs.Supply.{Draw, Words}
use Rattle.rules.specs.Numbers.{longest_message}
use Rattle.rules.specs.Hmac.{Masked}
use Rattle.rules.specs.Counts.{state_draws}
use Rattle.rules.specs.Stream.{state_room}

-- the share counts of the short conversion, and of all other calls
abbrev pub Power : ℕ → Type 0
Power n = (n ≡ 1) ⊎ (n ≡ 2) ⊎ (n ≡ 4) ⊎ (n ≡ 8)

abbrev pub Allowed : ℕ → Type 0
Allowed n = (1 ≤ n) × (n ≤ 16)

-- a state that feed and finish take; and the sizes that a state has by its type
pub record Fit (M : Masked) (s : State) : Type 0 where
  pub allowed_shares : Allowed s.n
  pub not_past : s.bytes ≤ longest_message
  pub unfinished : s.finished ≡ 0
  pub of_hash : s.hash ≡ M.code
  pub drawn_so : s.drawn ≡ state_draws M s.n s.bytes

pub record Whole (s : State) : Type 0 where
  pub inner_whole : length s.inner.shares ≡ state_room
  pub outer_whole : length s.outer.shares ≡ state_room
  pub tail_whole : length s.tail ≡ 64

-- what a call does not take it does not test
abbrev pub None : Type 0
None = Unit {0}

-- Section 3: a test gives its number where what it asks does not hold; else the tests after it decide, and at last 0
pub data Asks (A : Type 0) (own : ℕ) (Rest : ℕ → Type 0) : ℕ → Type 0 where
  fails : (A → ⊥) → Asks A own Rest own
  holds : {number : ℕ} → A → Rest number → Asks A own Rest number

abbrev pub Done : ℕ → Type 0
Done number = number ≡ 0

-- which number is given, by what holds of the share count, the input slices, the output slice, the text and the supply
abbrev pub Given : Type 0 → Type 0 → Type 0 → Type 0 → Type 0 → ℕ → Type 0
Given Count Input Output Text Supply = Asks Count 1 (Asks Input 2 (Asks Output 3 (Asks Text 4 (Asks Supply 5 Done))))

-- what there is afterwards, by that number: what was made, or all as it came
pub record Settles {A : Type 0} (Number : ℕ → Type 0) (number : ℕ) (made came after : A) : Type 0 where
  pub given : Number number
  pub refused_leaves : (number ≡ 0 → ⊥) → after ≡ came
  pub accepted_is : number ≡ 0 → after ≡ made

-- a call on shares: from what the output slice held and the words lent, its answer and what the output slice holds
abbrev pub OnShares : Type 0
OnShares = List ℕ → List ℕ → Answer × List ℕ

-- It takes a share count, an input, an output slice of `size` entries and a text, and draws d words, by its rule.
pub record Follows (Count Input : Type 0) (size : ℕ) (Text : Type 0) (d : ℕ) (rule : Draw (List ℕ)) (f : OnShares)
    : Type 0 where
  -- refused, the output slice is as it came and the count is 0; accepted, both are the rule's, from place 0
  pub outcome : (came ws : List ℕ) → (let o = f came ws in
      Settles (Given Count Input (length came ≡ size) Text (d ≤ length ws)) o.0.number
      (rule ws 0) (came, 0) (o.1, o.0.drawn))
  pub count : (came ws : List ℕ) → (f came ws).0.number ≡ 0 → (f came ws).0.drawn ≡ d
  -- any supply that begins with the same d words gives the same outcome
  pub past_draws : (came ws vs : List ℕ) → (f came ws).0.number ≡ 0 → take d ws ≡ take d vs → f came ws ≡ f came vs

-- whatever words of k bits it draws from, what it hands back where it is accepted is as P says
pub record Makes (k : ℕ) (f : OnShares) (P : List ℕ → Type 0) : Type 0 where
  pub made : (came ws : List ℕ) → Words k ws → (f came ws).0.number ≡ 0 → P (f came ws).1
