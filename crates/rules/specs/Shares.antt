-- Section 5: refresh, expand, AND and addition, for any number of shares of k bits.
use Rattle.std.specs.Prelude.{ℕ, zero, suc, ◌+◌, ◌-◌, List, [], ◌∷◌, ◌++◌, length, get_or, set, replicate}
use Rattle.std.specs.Int.Bits.{bit_xor, bit_and}
use Rattle.words.specs.Word.{Width, Word, double}
use Rattle.rules.specs.Supply.{Place, Sharing, Draw}

-- by shares
unfoldable pub each : (Word → Word → Word) → Sharing → Sharing → Sharing
each f [] ys = []
each f (x ∷ xs) [] = []
each f (x ∷ xs) (y ∷ ys) = f x y ∷ each f xs ys

-- ---- one draw for each pair of shares
-- what the word s, drawn for the pair i, j, does to the shares z
abbrev pub Step : Type 0
Step = Place → Place → Word → Sharing → Sharing

unfoldable pub pass : Step → List (Place × Place) → Sharing → Draw Sharing
pass step [] z ws at = (z, at)
pass step (p ∷ ps) z ws at = pass step ps (step p.0 p.1 (get_or ws at 0) z) ws (at + 1)

-- m pairs (i, j), (i, j+1), …
unfoldable pub along : ℕ → Place → Place → List (Place × Place)
along zero i j = []
along (suc m) i j = (i, j) ∷ along m i (j + 1)

-- m pairs (i, last), (i+1, last), …
unfoldable pub column : Place → ℕ → Place → List (Place × Place)
column last zero i = []
column last (suc m) i = (i, last) ∷ column last m (i + 1)

-- all pairs of the m shares from place i on: (i, i+1), (i, i+2), …, (i+1, i+2), …
unfoldable pub order : ℕ → Place → List (Place × Place)
order zero i = []
order (suc m) i = along m i (i + 1) ++ order m (i + 1)

-- s is XORed into shares i and j
abbrev pub mix : Step
mix i j s z =
    let y = set z i (bit_xor (get_or z i 0) s) in
    set y j (bit_xor (get_or y j 0) s)

-- Refresh, by request (v): for all pairs in order draw s; it is XORed into both shares
unfoldable pub refresh : Sharing → Draw Sharing
refresh x = pass mix (order (length x) 0) x

-- The refresh before that request, within the short conversion and, by (vi), arithmetic to Boolean: for i = 1 to n−1
-- draw s; yi = xi ⊕ s, and s is XORed into share n
unfoldable pub refresh_last : Sharing → Draw Sharing
refresh_last x = pass mix (column (length x - 1) (length x - 1) 0) x

-- Expand, n to 2n: each xi in turn gives xi ⊕ s, s
unfoldable pub expand : Sharing → Draw Sharing
expand [] ws at = ([], at)
expand (x ∷ xs) ws at =
    let s = get_or ws at 0 in
    let rest = expand xs ws (at + 1) in
    (bit_xor x s ∷ s ∷ rest.0, rest.1)

-- AND: zi gets s, and zj gets (s ⊕ (xi ∧ yj)) ⊕ (xj ∧ yi)
abbrev pub cross : Sharing → Sharing → Step
cross x y i j s z =
    let xi = get_or x i 0 in
    let yi = get_or y i 0 in
    let xj = get_or x j 0 in
    let yj = get_or y j 0 in
    let w = set z i (bit_xor (get_or z i 0) s) in
    set w j (bit_xor (get_or w j 0) (bit_xor (bit_xor s (bit_and xi yj)) (bit_and xj yi)))

-- for all pairs in order; each zi starts from xi ∧ yi
unfoldable pub and : Sharing → Sharing → Draw Sharing
and x y = pass (cross x y) (order (length x) 0) (each bit_and x y)

-- Addition: m times u = 2(AND(u, a) ⊕ w)
abbrev pub double_xor : Width → Word → Word → Word
double_xor k t w = double k (bit_xor t w)

unfoldable pub carries : Width → Sharing → Sharing → ℕ → Sharing → Draw Sharing
carries k a w zero u ws at = (u, at)
carries k a w (suc m) u ws at =
    let t = and u a ws at in
    carries k a w m (each (double_xor k) t.0 w) ws t.1

-- w = AND(x, y); a = x ⊕ y; u = 0 in all shares; k−1 rounds; z = x ⊕ y ⊕ u
unfoldable pub add : Width → Sharing → Sharing → Draw Sharing
add k x y ws at =
    let w = and x y ws at in
    let a = each bit_xor x y in
    let u = carries k a w.0 (k - 1) (replicate (length x) 0) ws w.1 in
    (each bit_xor a u.0, u.1)
