-- Section 3: what an outcome is told as, to C too: 0 and what was made, or the number of the refusal.
use Rattle.std.specs.Prelude.{ℕ, zero, suc, Result, Ok, Err}
use Rattle.rules.specs.declared.Refusal.{Refusal}
use Rattle.rules.specs.declared.Refusal.TheVariants.{WrongCount, WrongInput, WrongOutput, TooLong, TooFewWords, NotFit}
use Rattle.rules.specs.declared.Algorithm.{Algorithm}
use Rattle.rules.specs.declared.Algorithm.TheVariants.{Sha1, Sha256}
use Rattle.rules.specs.declared.Answer.{Answer}
use Rattle.rules.specs.declared.Opened.{Opened}

abbrev pub refusal_number : Refusal → ℕ
refusal_number WrongCount = 1
refusal_number WrongInput = 2
refusal_number WrongOutput = 3
refusal_number TooLong = 4
refusal_number TooFewWords = 5
refusal_number NotFit = 6

-- the number of an outcome
abbrev pub number : {A : Type 0} → Result A Refusal → ℕ
number (Ok made) = 0
number (Err refusal) = refusal_number refusal

-- the count of words, or nothing drawn
abbrev pub answer_of : Result ℕ Refusal → Answer
answer_of (Ok drawn) = record { number = 0; drawn = drawn }
answer_of (Err refusal) = record { number = refusal_number refusal; drawn = 0 }

-- the word that was opened, or 0
abbrev pub opened_of : Result ℕ Refusal → Opened
opened_of (Ok word) = record { number = 0; word = word }
opened_of (Err refusal) = record { number = refusal_number refusal; word = 0 }

-- the code of a hash, as a state carries it
abbrev pub code_of : Algorithm → ℕ
code_of Sha1 = 0
code_of Sha256 = 1

-- the hash of a code: every code but 0 is SHA-256's
abbrev pub algorithm_of : ℕ → Algorithm
algorithm_of zero = Sha1
algorithm_of (suc code) = Sha256
