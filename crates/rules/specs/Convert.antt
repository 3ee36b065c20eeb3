-- Section 5: the conversions of n shares. The addition and the refresh that they use are parameters.
use Rattle.std.specs.Prelude.{ℕ, zero, suc, ◌-◌, ◌/◌, ◌^◌, Bool, [], ◌∷◌, ◌++◌, map, eqb, leb, length, take, drop}
use Rattle.std.specs.Prelude.{replicate}
use Rattle.words.specs.Word.{Width, minus}
use Rattle.rules.specs.Supply.{Count, Sharing, Draw, next, opened}
use Rattle.rules.specs.Numbers.{choose, either}
use Rattle.rules.specs.Shares.{refresh_last, expand}

abbrev pub Adder : Type 0
Adder = Sharing → Sharing → Draw Sharing

abbrev pub Refresh : Type 0
Refresh = Sharing → Draw Sharing

-- whether n is one of 1, 2, 4, …, 2^m; and whether it is a power of two, for which m = n is enough
unfoldable pub power_to : ℕ → Count → Bool
power_to zero n = eqb n 1
power_to (suc m) n = either (power_to m n) (eqb n (2 ^ suc m))

abbrev pub power_of_two : Count → Bool
power_of_two n = power_to n n

-- half of n shares, converted, brought to n shares: expanded where n is a power of two; else, by request (vi), zero
-- shares are appended up to n, and it is refreshed by the old rule
unfoldable pub widen : Count → Sharing → Draw Sharing
widen n x = choose (power_of_two n) (expand x) (refresh_last (x ++ replicate (n - length x) 0))

-- convert the left half and widen it, then the right half and widen it, then add; of an odd count the right half has
-- one share more
unfoldable pub halved : (Sharing → Draw Sharing) → Adder → Sharing → Draw Sharing
halved convert adder a ws at =
    let n = length a in
    let left = convert (take (n / 2) a) ws at in
    let x = widen n left.0 ws left.1 in
    let right = convert (drop (n / 2) a) ws x.1 in
    let y = widen n right.0 ws right.1 in
    adder x.0 y.0 ws y.1

-- Arithmetic to Boolean: one share stays, otherwise by halves. At most `deep` halvings; as many as there are shares
-- are enough.
unfoldable pub to_bool_in : Adder → ℕ → Sharing → Draw Sharing
to_bool_in adder zero a ws at = (a, at)
to_bool_in adder (suc deep) a ws at = choose (leb (length a) 1) (a, at) (halved (to_bool_in adder deep) adder a ws at)

unfoldable pub to_bool : Adder → Sharing → Draw Sharing
to_bool adder a = to_bool_in adder (length a) a

-- Boolean to arithmetic: draw A1 … A(n−1); convert −A1, …, −A(n−1), 0 to Boolean; add to x (x is the first operand);
-- refresh; An is the XOR
unfoldable pub to_arith : Width → Adder → Refresh → Sharing → Draw Sharing
to_arith k adder fresh x ws at =
    let A = next (length x - 1) ws at in
    let b = to_bool adder (map (minus k 0) A.0 ++ (0 ∷ [])) ws A.1 in
    let s = adder x b.0 ws b.1 in
    let y = fresh s.0 ws s.1 in
    (A.0 ++ (opened y.0 ∷ []), y.1)
