-- What a call comes to, over any tests and any rule: which number it gives, what it leaves, which words have no say
-- in it, what it makes. crates/claims says it of each call.
use Prim.Native.Nat.{ℕ, zero, suc, ◌≤◌}
use mathlib.Core.Path.{◌≡◌, refl, sym, ap, ap₂, ◌∙◌, subst}
use mathlib.Core.Bool.{Bool, true, false}
use mathlib.Core.List.{List, [], ◌∷◌}
use mathlib.Core.Logic.{◌⊎◌, inl, inr}
use native.Mathlib.Nat.{zero-add}
use native.Mathlib.Omega.{arith}
use lib.Dec.{eqb, leb}
use lib.ListN.{length, get_or, take, length-take}
use lib.Seq.{length-take-le, get_or-take}
use borrow.Author.Tests.{eqb-true, eqb-false, leb-true, leb-false, le-leb}
use Rattle.rules.specs.declared.Answer.{Answer}
use Rattle.rules.specs.declared.State.{State}
use Rattle.rules.specs.Supply.{Draw, Rule, Words}
use Rattle.rules.specs.Numbers.{longest_message, choose, either, both, power, allowed}
use Rattle.rules.specs.Numbers.{Test, test, first, settled}
use Rattle.rules.specs.Independent.{Independent}
use Rattle.rules.specs.Calls.{call, open_call, record_call, same, same_tag}
use Rattle.rules.specs.Hmac.{Masked}
use Rattle.rules.specs.Counts.{state_draws}
use Rattle.rules.specs.Stream.{fit, is_fit}
use Rattle.rules.specs.Outcome.{Power, Allowed, Fit, None, Asks, fails, holds, Done, Given}
use Rattle.rules.specs.Outcome.{Settles, OnShares, Follows, Makes}

-- ---- what a test says of the condition that it tests
pub data Says (A : Type 0) : Bool → Type 0 where
  yes : A → Says A true
  no : (A → ⊥) → Says A false

says : (A : Type 0) (b : Bool) → (b ≡ true → A) → (b ≡ false → A → ⊥) → Says A b
says A true is isnt = yes (is refl)
says A false is isnt = no (isnt refl)

pub untested : Says None true
untested = yes tt

pub says_eq : (a b : ℕ) → Says (a ≡ b) (eqb a b)
says_eq a b = says (a ≡ b) (eqb a b) (eqb-true a b) (eqb-false a b)

pub says_le : (a b : ℕ) → Says (a ≤ b) (leb a b)
says_le a b = says (a ≤ b) (leb a b) (leb-true a b) (λ e h. omega (arith, leb-false a b e))

says_as : {A B : Type 0} {b : Bool} → (A → B) → (B → A) → Says A b → Says B b
says_as f g (yes p) = yes (f p)
says_as f g (no p) = no (λ h. p (g h))

says_both : {A B : Type 0} {a b : Bool} → Says A a → Says B b → Says (A × B) (both a b)
says_both (yes p) (yes q) = yes (p, q)
says_both (yes p) (no q) = no (λ h. q h.1)
says_both (no p) s = no (λ h. p h.0)

pub says_two : (n : ℕ) (x y : List ℕ)
    → Says ((length x ≡ n) × (length y ≡ n)) (both (eqb (length x) n) (eqb (length y) n))
says_two n x y = says_both (says_eq (length x) n) (says_eq (length y) n)

-- Two texts, compared byte by byte.
says_same : (a b : List ℕ) → Says (a ≡ b) (same a b)
unfolding same
says_same [] [] = yes refl
says_same [] (y ∷ b) = no (λ e. let z : ◌≡◌ {A = ℕ} 0 1 = cc in omega arith)
says_same (x ∷ a) [] = no (λ e. let z : ◌≡◌ {A = ℕ} 0 1 = cc in omega arith)
says_same (x ∷ a) (y ∷ b) =
    says_as (λ e. ap₂ ◌∷◌ e.0 e.1) (λ e. ((cc), (cc))) (says_both (says_eq x y) (says_same a b))

pub compared : (a b : List ℕ) → Asks (a ≡ b) 0 (λ answer. answer ≡ 1) (same_tag a b)
compared a b = go (says_same a b)
  where
    go : {s : Bool} → Says (a ≡ b) s → Asks (a ≡ b) 0 (λ answer. answer ≡ 1) (choose s 1 0)
    go (yes e) = holds e refl
    go (no e) = fails e

says_either : {A B : Type 0} {a b : Bool} → Says A a → Says B b → Says (A ⊎ B) (either a b)
says_either (yes p) s = yes (inl p)
says_either (no p) (yes q) = yes (inr q)
says_either {A} {B} (no p) (no q) = no neither
  where
    neither : A ⊎ B → ⊥
    neither (inl x) = p x
    neither (inr y) = q y

pub says_power : (n : ℕ) → Says (Power n) (power n)
unfolding power
says_power n = says_either (says_eq n 1) (says_either (says_eq n 2) (says_either (says_eq n 4) (says_eq n 8)))

pub says_count : (n : ℕ) → Says (Allowed n) (allowed n)
unfolding allowed
says_count n = says_both (says_le 1 n) (says_le n 16)

pub says_fit : (M : Masked) (s : State) → Says (Fit M s) (is_fit M s)
unfolding fit
says_fit M s =
    says_as
    (λ p. record {
      allowed_shares = p.0.0;
      not_past = p.0.1;
      unfinished = p.1.0;
      of_hash = p.1.1.0;
      drawn_so = p.1.1.1;
    })
    (λ f. ((f.allowed_shares, f.not_past), (f.unfinished, (f.of_hash, f.drawn_so))))
    (says_both (says_both (says_count s.n) (says_le s.bytes longest_message))
    (says_both (says_eq s.finished 0)
    (says_both (says_eq s.hash M.code) (says_eq s.drawn (state_draws M s.n s.bytes)))))

pub passed : {A : Type 0} {b : Bool} → Says A b → A → b ≡ true
passed (yes p) h = refl
passed (no p) h = absurd (p h)

-- ---- the number of tests in order; of each it is asked only where those before it are passed
pub gives : {A : Type 0} {Rest : ℕ → Type 0} {a : Bool} (m : ℕ) (ts : List Test) → Says A a → (A → Rest (first ts))
    → Asks A (suc m) Rest (first (test (suc m) a ∷ ts))
unfolding first test
gives m ts (yes p) rest = holds p (rest p)
gives m ts (no p) rest = fails p

all_passed : first [] ≡ 0
unfolding first
all_passed = refl

pub given : {A B C D E : Type 0} {a b c d e : Bool}
    → Says A a → Says B b → Says C c → Says D d → (A → B → C → D → Says E e)
    → Given A B C D E (first (test 1 a ∷ test 2 b ∷ test 3 c ∷ test 4 d ∷ test 5 e ∷ []))
given {a = a} {b = b} {c = c} {d = d} {e = e} pa pb pc pd pe =
    gives 0 (test 2 b ∷ test 3 c ∷ test 4 d ∷ test 5 e ∷ []) pa (λ p.
    gives 1 (test 3 c ∷ test 4 d ∷ test 5 e ∷ []) pb (λ q.
    gives 2 (test 4 d ∷ test 5 e ∷ []) pc (λ r.
    gives 3 (test 5 e ∷ []) pd (λ s.
    gives 4 [] (pe p q r s) (λ t. all_passed)))))

-- ---- by the number: what was made, or what came
pub settles : {A : Type 0} {Number : ℕ → Type 0} (number : ℕ) (made came after : A)
    → Number number → after ≡ settled number made came → Settles Number number made came after
settles zero made came after g e = record { given = g; refused_leaves = λ h. absurd (h refl); accepted_is = λ h. e }
settles (suc m) made came after g e =
    record { given = g; refused_leaves = λ h. e; accepted_is = λ h. absurd (omega arith) }

-- what was asked for is there where the number is 0
pub ask : {A : Type 0} {m number : ℕ} {Rest : ℕ → Type 0} → Asks A (suc m) Rest number → number ≡ 0 → A × Rest number
ask (fails p) h = absurd (omega arith)
ask (holds a r) h = (a, r)

pub asked : {C I O T S : Type 0} {number : ℕ} → Given C I O T S number → number ≡ 0 → C × I × O × T × S
asked g h =
    let c = ask {m = 0} g h in
    let i = ask {m = 1} c.1 h in
    let o = ask {m = 2} i.1 h in
    let t = ask {m = 3} o.1 h in
    let s = ask {m = 4} t.1 h in
    (c.0, i.0, o.0, t.0, s.0)

pub settled_pair : {A B : Type 0} (number : ℕ) (a : A × B) (c : A) (d : B)
    → (settled number a.0 c, settled number a.1 d) ≡ settled number a (c, d)
settled_pair zero a c d = refl
settled_pair (suc number) a c d = refl

pub settled_three : {A B C : Type 0} (number : ℕ) (a a' : A) (b b' : B) (c c' : C)
    → ◌≡◌ {A = A × B × C} (settled number a a', settled number b b', settled number c c')
    (settled number (a, b, c) (a', b', c'))
settled_three zero a a' b b' c c' = refl
settled_three (suc number) a a' b b' c c' = refl

-- ---- a rule from place 0
module _ {S : Type 0} {d : ℕ} {P : S → Type 0} {rule : Draw S} (law : Rule d P rule) (ws : List ℕ) where
  pub place : (rule ws 0).1 ≡ d
  place = law.place ws 0 ∙ zero-add d

  pub says_supply : Says (d ≤ length ws) (leb (rule ws 0).1 (length ws))
  says_supply = rw place (says_le d (length ws))

  -- a supply with the same first words
  module _ (vs : List ℕ) (same : take d ws ≡ take d vs) (enough : d ≤ length ws) where
    pub alike : rule ws 0 ≡ rule vs 0
    alike =
        ap₂ (λ a b. (a, b))
        (law.same ws vs 0 0
        (λ i l.
        rw zero-add
        (sym (get_or-take d ws i 0 (omega arith)) ∙ ap (λ t. get_or t i 0) same ∙ get_or-take d vs i 0 (omega arith))))
        (place ∙ sym (law.place vs 0 ∙ zero-add d))

    pub as_long : d ≤ length vs
    as_long = omega (arith, length-take d vs, ap length same, length-take-le d ws enough)

-- ---- a call of two tests, whichever they are, and the supply
module _ {S A B : Type 0} {a b : Bool} (i j d : ℕ) {P : S → Type 0} (rule : Draw S) (says-a : Says A a)
    (says-b : Says B b)
    (law : A → B → Rule d P rule) (came : S) (ws : List ℕ) where
  abbrev tests : List Test
  tests = test (suc i) a ∷ test (suc j) b ∷ []

  abbrev answered : Answer × S
  answered = call tests rule came ws

  answer_number : Asks A (suc i) (Asks B (suc j) (Asks (d ≤ length ws) 5 Done)) answered.0.number
  unfolding call
  answer_number =
      gives i (test (suc j) b ∷ test 5 _ ∷ []) says-a (λ p.
      gives j (test 5 _ ∷ []) says-b (λ q. gives 4 [] (says_supply (law p q) ws) (λ t. all_passed)))

  pub call_settles : Settles {A = S × ℕ} (Asks A (suc i) (Asks B (suc j) (Asks (d ≤ length ws) 5 Done)))
      answered.0.number (rule ws 0) (came, 0) (answered.1, answered.0.drawn)
  unfolding call
  call_settles =
      settles answered.0.number (rule ws 0) (came, 0) _ answer_number
      (settled_pair answered.0.number (rule ws 0) came 0)

  module _ (accepted : answered.0.number ≡ 0) where
    pub call_asked : A × B × (d ≤ length ws)
    call_asked =
        let p = ask {m = i} answer_number accepted in
        let q = ask {m = j} p.1 accepted in
        (p.0, q.0, (ask {m = 4} q.1 accepted).0)

    abbrev its : Rule d P rule
    its = law call_asked.0 call_asked.1

    pub call_draws : answered.0.drawn ≡ d
    unfolding call
    call_draws = rw accepted (place its ws)

    -- what is done is done by any rule that does the same, from any supply with the same first words
    pub call_past : (other : Draw S) (instead : S) (vs : List ℕ) → rule vs 0 ≡ other vs 0 → take d ws ≡ take d vs
        → answered ≡ call tests other instead vs
    unfolding call
    call_past other instead vs alike-rules same =
        let enough = call_asked.2 in
        let long = as_long its ws vs same enough in
        let zero : first (test (suc i) a ∷ test (suc j) b ∷ test 5 true ∷ []) ≡ 0 =
        rw (place its ws, le-leb d (length ws) enough) at accepted in
        rw (
          ← alike-rules,
          ← alike its ws vs same enough,
          place its ws,
          le-leb d (length ws) enough,
          le-leb d (length vs) long,
          zero,
        )

-- ---- a call on shares follows its rule, which has its law where the call's tests are passed
abbrev pub call_of : Bool → Bool → ℕ → Bool → Draw (List ℕ) → OnShares
call_of count input size text rule came =
    call (test 1 count ∷ test 2 input ∷ test 3 (eqb (length came) size) ∷ test 4 text ∷ []) rule came

module _ (size d : ℕ) {Count Input Text : Type 0} (count input text : Bool) {P : List ℕ → Type 0} (rule : Draw (List ℕ))
    (says-n : Says Count count) (says-input : Says Input input) (says-text : Says Text text)
    (law : Count → Input → Text → Rule d P rule) where
  abbrev of : OnShares
  of = call_of count input size text rule

  module _ (came ws : List ℕ) where
    abbrev number : ℕ
    number = (of came ws).0.number

    number_is : Given Count Input (length came ≡ size) Text (d ≤ length ws) number
    unfolding call
    number_is =
        given says-n says-input (says_eq (length came) size) says-text
        (λ c i o t. says_supply (law c i t) ws)

    draws_so : number ≡ 0 → (of came ws).0.drawn ≡ d
    unfolding call
    draws_so h = let a = asked number_is h in rw h (place (law a.0 a.1 a.3) ws)

    past : (vs : List ℕ) → number ≡ 0 → take d ws ≡ take d vs → of came ws ≡ of came vs
    unfolding call
    past vs h same =
        let a = asked number_is h in
        let l = law a.0 a.1 a.3 in
        let long = as_long l ws vs same a.4 in
        rw (← alike l ws vs same a.4, place l ws, le-leb d (length ws) a.4, le-leb d (length vs) long)

  followed : Follows Count Input size Text d rule of
  unfolding call
  followed =
      record {
        outcome = λ came ws.
            settles (number came ws) (rule ws 0) (came, 0) _ (number_is came ws)
            (settled_pair (number came ws) (rule ws 0) came 0);
        count = draws_so;
        past_draws = past;
      }

pub follows : {size d : ℕ} {Count Input Text : Type 0} {count input text : Bool} {P : List ℕ → Type 0}
    {rule : Draw (List ℕ)}
    → Says Count count → Says Input input → Says Text text → (Count → Input → Text → Rule d P rule)
    → Follows Count Input size Text d rule (call_of count input size text rule)
follows {size} {d} {count = count} {input = input} {text = text} {rule = rule} = followed size d count input text rule

-- ---- the conditions leave one number
pub only : {A : Type 0} {m i j : ℕ} {R : ℕ → Type 0} → (R i → R j → i ≡ j) → Asks A m R i → Asks A m R j → i ≡ j
only rest (fails p) (fails q) = refl
only rest (fails p) (holds a r) = absurd (p a)
only rest (holds a r) (fails q) = absurd (q a)
only rest (holds a r) (holds b s) = rest r s

pub done_only : {i j : ℕ} → Done i → Done j → i ≡ j
done_only p q = p ∙ sym q

pub exactly : {A B C D E : Type 0} {i j : ℕ} → Given A B C D E i → Given A B C D E j → i ≡ j
exactly = only (only (only (only (only done_only))))

-- ---- what a call makes, from what its rule makes where the call's tests are passed
module _ {size d k : ℕ} {Count Input Text : Type 0} {rule : Draw (List ℕ)} {f : OnShares} {P : List ℕ → Type 0} where
  pub makes : Follows Count Input size Text d rule f
      → (Count → Input → Text → (ws : List ℕ) → Words k ws → P (rule ws 0).0) → Makes k f P
  makes follows law = record {
    made = λ came ws w h.
        let o = follows.outcome came ws in
        let a = asked o.given h in
        subst (λ (t : List ℕ × ℕ). P t.0) (sym (o.accepted_is h)) (law a.0 a.1 a.3 ws w);
  }

  pub makes_as : {e : ℕ} → Follows Count Input size Text d rule f → (Count → Input → Text → Rule e P rule) → Makes k f P
  makes_as follows law = makes follows (λ c i t ws w. (law c i t).makes ws 0)

-- ---- openings and records
pub open_settles : (n : ℕ) (x : List ℕ) (word : ℕ)
    → (let o = open_call n x word in Settles (Given (Allowed n) (length x ≡ n) None None None) o.number word 0
    o.word)
unfolding first test
open_settles n x word =
    settles (open_call n x word).number word 0 _
    (given (says_count n) (says_eq (length x) n) untested untested (λ c i o t. untested)) refl

pub record_settles : (size : ℕ) (steps came : List ℕ)
    → (let o = record_call size steps came in Settles (Given None None (length came ≡ size) None None) o.0 steps came
    o.1)
unfolding first test
record_settles size steps came =
    settles (record_call size steps came).0 steps came _
    (given untested untested (says_eq (length came) size) untested (λ c i o t. untested)) refl

-- demand 3, at what a recording call leaves: its number does not hang on what is recorded
pub record_independent : (k i size : ℕ) (steps : ℕ → ℕ → ℕ → List ℕ) (came : List ℕ)
    → Independent k (λ x r G. get_or (steps x r G) i 0)
    → Independent k (λ x r G. get_or (record_call size (steps x r G) came).1 i 0)
record_independent k i size steps came h = go (record_call size [] came).0
  where
    go : (number : ℕ) → Independent k (λ x r G. get_or (settled number (steps x r G) came) i 0)
    go zero = h
    go (suc m) = λ x y v a b. refl
