-- Section 2: the supply, splitting and opening. Places and shares are counted from 0.
use Rattle.std.specs.Prelude.{ℕ, zero, suc, ◌+◌, ◌-◌, ◌%◌, ◌^◌, ◌<◌, ◌≡◌, List, [], ◌∷◌, ◌++◌, length, get_or}
use Rattle.std.specs.Int.Bits.{bit_xor}
use Rattle.words.specs.Word.{Width, Word}

-- how many shares
abbrev pub Count : Type 0
Count = ℕ

-- a place in the supply, or among shares
abbrev pub Place : Type 0
Place = ℕ

-- the lent words
abbrev pub Supply : Type 0
Supply = List Word

-- the shares of a word, or of several one after the other
abbrev pub Sharing : Type 0
Sharing = List Word

-- A rule that draws: from the lent words and the place of the next unused one, what it makes and the place after those
-- that it drew.
abbrev pub Draw : Type 0 → Type 0
Draw S = Supply → Place → S × Place

-- the next m words, each drawn once
unfoldable pub next : ℕ → Draw (List Word)
next zero ws at = ([], at)
next (suc m) ws at =
    let rest = next m ws (at + 1) in
    (get_or ws at 0 ∷ rest.0, rest.1)

-- Opening by XOR
unfoldable pub opened : Sharing → Word
opened [] = 0
opened (x ∷ xs) = bit_xor x (opened xs)

-- Opening by sum
unfoldable pub total : Sharing → ℕ
total [] = 0
total (x ∷ xs) = x + total xs

abbrev pub opened_sum : Width → Sharing → Word
opened_sum k a = total a % 2 ^ k

-- Splitting a value: the next n−1 words are shares 1 to n−1, and share n is the value XOR all of them
unfoldable pub split : Count → Word → Draw Sharing
split n value ws at =
    let masks = next (n - 1) ws at in
    (masks.0 ++ (bit_xor value (opened masks.0) ∷ []), masks.1)

-- ---- what is said of a rule
-- the same d words stand in one supply from one place on, and in another from another
abbrev pub Agree : ℕ → Supply → Place → Supply → Place → Type 0
Agree d ws at vs to = (i : ℕ) → i < d → get_or ws (at + i) 0 ≡ get_or vs (to + i) 0

-- it draws d words; nothing else of the supply has a say, nor where they stand in it; and what it makes is as P says
pub record Rule {S : Type 0} (d : ℕ) (P : S → Type 0) (rule : Draw S) : Type 0 where
  pub place : (ws : Supply) (at : Place) → (rule ws at).1 ≡ at + d
  pub same : (ws vs : Supply) (at to : Place) → Agree d ws at vs to → (rule ws at).0 ≡ (rule vs to).0
  pub makes : (ws : Supply) (at : Place) → P (rule ws at).0

-- n shares that open to a secret
abbrev pub Shares : Count → Word → Sharing → Type 0
Shares n secret z = (length z ≡ n) × (opened z ≡ secret)

-- every entry is a word of k bits
abbrev pub Words : Width → List Word → Type 0
Words k z = (i : ℕ) → get_or z i 0 < 2 ^ k
