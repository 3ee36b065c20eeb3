-- Section 3: the numbers handed back, and what a refusal leaves.
use Rattle.std.specs.Prelude.{ℕ, zero, suc, Bool, true, false, List, [], ◌∷◌, eqb, leb}

-- the largest share count
abbrev pub largest : ℕ
largest = 16

-- the longest key given for splitting, and the longest message, in bytes
abbrev pub longest_key : ℕ
longest_key = 1024

abbrev pub longest_message : ℕ
longest_message = 65536

abbrev pub choose : {A : Type 0} → Bool → A → A → A
choose true a b = a
choose false a b = b

abbrev pub either : Bool → Bool → Bool
either true b = true
either false b = b

abbrev pub both : Bool → Bool → Bool
both true b = b
both false b = false

-- the share counts of the short conversion: 1, 2, 4 and 8
unfoldable pub power : ℕ → Bool
power n = either (eqb n 1) (either (eqb n 2) (either (eqb n 4) (eqb n 8)))

-- and of all other calls: 1 to 16
unfoldable pub allowed : ℕ → Bool
allowed n = both (leb 1 n) (leb n largest)

-- what there is afterwards: at number 0 what was done, else what a refusal leaves
abbrev pub settled : {A : Type 0} → ℕ → A → A → A
settled zero done refused = done
settled (suc number) done refused = refused

-- a test: 0 where it is passed, else its number
abbrev pub Test : Type 0
Test = ℕ

unfoldable pub test : ℕ → Bool → Test
test number true = 0
test number false = number

-- the tests of a call, in order: the first that is not passed gives its number; 0 where all are
unfoldable pub first : List Test → ℕ
first [] = 0
first (t ∷ ts) = settled t (first ts) t

-- how many words a query tells: 0 where it refuses
abbrev pub told : List Test → ℕ → ℕ
told tests drawn = settled (first tests) drawn 0
