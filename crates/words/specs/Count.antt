-- Counting pairs of words, for demand 3.
use Rattle.std.specs.Prelude.{ℕ, zero, suc, ◌+◌, ◌^◌, Bool, true, false, eqb}
use Rattle.words.specs.Word.{Width, Word}

-- what a step shows, from the secret x and the pair (r, g)
abbrev pub Probe : Type 0
Probe = Word → Word → Word → Word

-- f 0 + f 1 + .. + f (n − 1)
unfoldable pub sum : ℕ → (ℕ → ℕ) → ℕ
sum zero f = 0
sum (suc n) f = sum n f + f n

abbrev pub one : Bool → ℕ
one true = 1
one false = 0

-- 1 where a is v, else 0
unfoldable pub hit : Word → Word → ℕ
hit a v = one (eqb a v)

-- how many pairs (r, g) of words of k bits have f r g equal to v
unfoldable pub pairs : Width → (Word → Word → Word) → Word → ℕ
pairs k f v = sum (2 ^ k) (λ r. sum (2 ^ k) (λ g. hit (f r g) v))
