-- Words in n shares: their sizes, and several of them, one after the other, as code fills them from the front.
use Rattle.std.specs.Prelude.{ℕ, ◌*◌, ◌≤◌, ◌≡◌, List, [], ◌∷◌, ◌++◌, length, take, drop}
use Rattle.rules.specs.Numbers.{largest}

-- each has n shares
abbrev pub Sized : ℕ → List (List ℕ) → Type 0
Sized n [] = Unit {0}
Sized n (x ∷ xs) = (length x ≡ n) × Sized n xs

-- each is a word in n shares, and there is room for so many
abbrev pub Masked : ℕ → List (List ℕ) → Type 0
Masked n xs = (n ≤ largest) × Sized n xs

-- the first m words of several
unfoldable pub firsts : ℕ → ℕ → List ℕ → List ℕ
firsts n m s = take (m * n) s

-- several words in a ring, from word r on round
unfoldable pub turned : ℕ → ℕ → List ℕ → List ℕ
turned n r s = drop (r * n) s ++ take (r * n) s
