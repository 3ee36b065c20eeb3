-- What the definitions of the calls come to, whichever tests a call has: refused, with what that leaves, or done. And
-- that a promise has one outcome. What each kind of call tests stands in Tested.
use Prim.Native.Nat.{ℕ, zero, suc}
use mathlib.Core.Path.{◌≡◌, refl, sym, ap, ◌∙◌}
use mathlib.Core.Bool.{Bool, true, false}
use mathlib.Core.List.{List, [], ◌∷◌, ◌++◌}
use Rattle.std.specs.Prelude.{Result, Ok, Err, IsErrAnd}
use Rattle.std.specs.Result.{result_unwrap_or}
use native.Mathlib.Omega.{arith}
use lib.Dec.{leb}
use lib.ListN.{length}
use borrow.Author.Tests.{eq-eqb, ne_eqb}
use Rattle.rules.specs.declared.Answer.{Answer}
use Rattle.rules.specs.declared.Refusal.{Refusal}
use Rattle.rules.specs.declared.Refusal.TheVariants.{WrongCount, WrongInput, WrongOutput, TooLong, TooFewWords, NotFit}
use Rattle.rules.specs.Refusals.{refusal_number, number, answer_of}
use Rattle.rules.specs.Supply.{Draw}
use Rattle.rules.specs.Numbers.{Test, test, first, settled}
use Rattle.rules.specs.Calls.{record_call, call, query}

-- No two differing outcomes satisfy one promise: each promise is an equation to a definition.
pub one_outcome : {O : Type 0} (promised a b : O) → promised ≡ a → promised ≡ b → a ≡ b
one_outcome promised a b p q = sym p ∙ q

-- ---- recording forms
pub not_recorded : (size : ℕ) (steps came : List ℕ) → (length came ≡ size → ⊥) → record_call size steps came ≡ (3, came)
unfolding first test
not_recorded size steps came h = rw (ne_eqb (length came) size h)

pub recorded : (size : ℕ) (steps came entries : List ℕ) → length came ≡ size → entries ≡ steps
    → record_call size steps came ≡ (0, entries)
unfolding first test
recorded size steps came entries h e = rw (eq-eqb (length came) size h, e)

-- ---- the tests of a call, whichever they are
-- each of them was passed
abbrev pub Passed : List Test → Type 0
Passed [] = Unit {0}
Passed (t ∷ ts) = (t ≡ 0) × Passed ts

pub passed : (ts : List Test) → first ts ≡ 0 → Passed ts
unfolding first
passed [] h = tt
passed (zero ∷ ts) h = (refl, passed ts h)
passed (suc t ∷ ts) h = absurd (omega arith)

pub holds : (number : ℕ) (b : Bool) → test (suc number) b ≡ 0 → b ≡ true
unfolding test
holds number true h = refl
holds number false h = absurd (omega arith)

-- one more test: the number so far, or, where that is 0, what this test gives
pub one_more : (ts : List Test) (t : Test) (number result : ℕ) → first ts ≡ number → result ≡ settled number t number
    → first (ts ++ (t ∷ [])) ≡ result
unfolding first
one_more [] zero number result e f = rw (← e) at (sym f)
one_more [] (suc m) number result e f = rw (← e) at (sym f)
one_more (zero ∷ ts) t number result e f = one_more ts t number result e f
one_more (suc m ∷ ts) t number result e f = rw (← e) at (sym f)

-- what a test compares matters only where the tests before it were passed
pub same_test : (ts us : List Test) (number need drawn have : ℕ) → (first ts ≡ 0 → drawn ≡ need)
    → first (ts ++ (test number (leb need have) ∷ us)) ≡ first (ts ++ (test number (leb drawn have) ∷ us))
unfolding first
same_test [] us number need drawn have e = rw (e refl)
same_test (zero ∷ ts) us number need drawn have e = same_test ts us number need drawn have e
same_test (suc t ∷ ts) us number need drawn have e = refl

-- a refusal leaves all as it came
pub settled_refused : {A : Type 0} (number : ℕ) (done came : A) → (number ≡ 0 → ⊥) → settled number done came ≡ came
settled_refused zero done came h = absurd (h refl)
settled_refused (suc number) done came h = refl

-- an answer by its parts
abbrev pub answer : ℕ → ℕ → Answer
answer number drawn = record { number = number; drawn = drawn }

-- what a query tells that refuses nothing
pub tells : (tests : List Test) (drawn asked need : ℕ) → query tests drawn ≡ answer asked need
    → first tests ≡ 0 → drawn ≡ need
tells tests drawn asked need e h = rw h at (ap (λ (a : Answer). a.drawn) e)

-- what a query answers, by its number and the words that it tells
pub answered : (tests : List Test) (drawn need : ℕ) (r : Result ℕ Refusal) → query tests drawn ≡ answer_of r
    → need ≡ result_unwrap_or r 0 → query tests drawn ≡ record { number = number r; drawn = need }
answered tests drawn need (Ok n) e f = rw f e
answered tests drawn need (Err refusal) e f = rw f e

-- ---- a call's outcome
pub not_done : (refusal : Refusal) → refusal_number refusal ≡ 0 → ⊥
not_done WrongCount h = absurd (omega arith)
not_done WrongInput h = absurd (omega arith)
not_done WrongOutput h = absurd (omega arith)
not_done TooLong h = absurd (omega arith)
not_done TooFewWords h = absurd (omega arith)
not_done NotFit h = absurd (omega arith)

-- a refusal that is passed on
passed_on : {A : Type 0} {refusal : Refusal} (made : Result A Refusal) → IsErrAnd made (λ r. r ≡ refusal)
    → made ≡ Err refusal
passed_on {A = A} {refusal = refusal} (Ok _) h = elim h [ ]
passed_on (Err r) h = ap Err h

-- refused by the first of its tests
pub refused_early : {S : Type 0} (ts us : List Test) (rule : Draw S) (came : S) (ws : List ℕ) (refusal : Refusal)
    (made : Result ℕ Refusal) → first ts ≡ refusal_number refusal → IsErrAnd made (λ r. r ≡ refusal)
    → call (ts ++ us) rule came ws ≡ (answer_of made, came)
unfolding call first
refused_early ts us rule came ws refusal made e is =
    let all = stays ts us (test 5 (leb (rule ws 0).1 (length ws)) ∷ []) refusal e in
    let h = not_done refusal in
    rw (
      all,
      settled_refused (refusal_number refusal) (rule ws 0).1 0 h,
      settled_refused (refusal_number refusal) (rule ws 0).0 came h,
      passed_on made is,
    )
  where
    stays : (ts us vs : List Test) (refusal : Refusal) → first ts ≡ refusal_number refusal
        → first ((ts ++ us) ++ vs) ≡ refusal_number refusal
    stays [] us vs refusal h = absurd (not_done refusal (sym h))
    stays (zero ∷ ts) us vs refusal h = stays ts us vs refusal h
    stays (suc t ∷ ts) us vs refusal h = h

-- which its query makes
pub refused_asked : {S : Type 0} (ts us : List Test) (rule : Draw S) (came : S) (ws : List ℕ) (d : ℕ)
    (refusal : Refusal) (made : Result ℕ Refusal)
    → query ts d ≡ record { number = refusal_number refusal; drawn = 0 } → IsErrAnd made (λ r. r ≡ refusal)
    → call (ts ++ us) rule came ws ≡ (answer_of made, came)
refused_asked ts us rule came ws d refusal made e =
    refused_early ts us rule came ws refusal made (ap (λ (a : Answer). a.number) e)

-- refused by its own tests, of which the last is by what the rule draws; or done
module _ {S : Type 0} (tests : List Test) (rule : Draw S) (came : S) (ws : List ℕ) (need number : ℕ)
    (is : first (tests ++ (test 5 (leb need (length ws)) ∷ [])) ≡ number)
    (draws : first tests ≡ 0 → (rule ws 0).1 ≡ need) where
  own : first (tests ++ (test 5 (leb (rule ws 0).1 (length ws)) ∷ [])) ≡ number
  own = sym (same_test tests [] 5 need (rule ws 0).1 (length ws) draws) ∙ is

  -- whatever the number is
  pub refused_at : (number ≡ 0 → ⊥) → call tests rule came ws ≡ (answer number 0, came)
  unfolding call
  refused_at h = rw (own, settled_refused number (rule ws 0).1 0 h, settled_refused number (rule ws 0).0 came h)

  pub refused : (refusal : Refusal) (made : Result ℕ Refusal) → number ≡ refusal_number refusal
      → IsErrAnd made (λ r. r ≡ refusal) → call tests rule came ws ≡ (answer_of made, came)
  refused refusal made e passes =
      refused_at (λ z. not_done refusal (sym e ∙ z)) ∙ (rw (e, passed_on made passes))

  pub done : (after : S) (drawn : ℕ) → number ≡ 0 → rule ws 0 ≡ (after, drawn)
      → call tests rule came ws ≡ (record { number = 0; drawn = drawn }, after)
  unfolding call
  done after drawn h e = rw (own, h, e)
