-- Shares that stand in single words, as the lists of the rules.
use Rattle.std.specs.Prelude.{ℕ, ◌+◌, ◌-◌, ◌≤◌, ◌<◌, ◌≡◌, List, [], ◌∷◌, get_or, take}
use Rattle.std.specs.Int.Bits.{bit_xor, bit_and}
use Rattle.rules.specs.Supply.{Draw}
use Rattle.rules.specs.Shares.{each, pass, along, order, cross}
use Rattle.few.specs.declared.Few.{Few}
use Rattle.few.specs.declared.Run.{Run}
use Rattle.few.specs.declared.Pair.{Pair}

-- 1, 2 or 4
abbrev pub IsFew : ℕ → Type 0
IsFew n = (0 < n) × (n ≤ 4) × (n ≡ 3 → ⊥)

-- the first n words
unfoldable pub firsts : ℕ → Few → List ℕ
firsts n x = take n (x.s0 ∷ x.s1 ∷ x.s2 ∷ x.s3 ∷ [])

-- what a rule makes, and the place after
abbrev pub ran : ℕ → Run → List ℕ × ℕ
ran n r = (firsts n r.shares, r.at)

-- one draw of the AND for the pair i < j: what it makes of zi and zj
abbrev pub Crosses : List ℕ → ℕ → ℕ → ℕ → ℕ → ℕ → ℕ → ℕ → Pair → Type 0
Crosses ws at zi zj xi yi xj yj r =
    let s = get_or ws at 0 in
    (r.i ≡ bit_xor zi s) × (r.j ≡ bit_xor zj (bit_xor (bit_xor s (bit_and xi yj)) (bit_and xj yi))) × (r.at ≡ at + 1)

-- the AND in two parts: the pairs of share 0, on the diagonal, and the pairs of the others
unfoldable pub first_row : ℕ → Few → Few → Draw (List ℕ)
first_row n x y =
    let u = firsts n x in
    let v = firsts n y in
    pass (cross u v) (along (n - 1) 0 1) (each bit_and u v)

unfoldable pub other_rows : ℕ → Few → Few → Few → Draw (List ℕ)
other_rows n x y z = pass (cross (firsts n x) (firsts n y)) (order (n - 1) 1) (firsts n z)
