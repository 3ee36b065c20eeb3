-- Section 5, and request (iv): the short conversion, Boolean to arithmetic without a carry loop, for any number of
-- shares of k bits.
use Rattle.std.specs.Prelude.{zero, suc, ◌-◌, ◌%◌, [], ◌∷◌, ◌++◌, map, eqb, length, get_or, set, take, drop}
use Rattle.std.specs.Int.Bits.{bit_xor}
use Rattle.words.specs.Word.{Width, plus}
use Rattle.rules.specs.Supply.{Count, Sharing, Draw}
use Rattle.rules.specs.Numbers.{choose}
use Rattle.rules.specs.Goubin.{psi}
use Rattle.rules.specs.Shares.{each, refresh_last}

-- b: the Ψ of share 1 at each of the n later shares, and share 1 XORed into the first entry when n is even
unfoldable pub psis : Width → Sharing → Sharing
psis k a =
    let share = get_or a 0 0 in
    let b = map (psi k share) (drop 1 a) in
    choose (eqb (length b % 2) 0) (set b 0 (bit_xor (get_or b 0 0) share)) b

-- the last entry XORed into the one before, and dropped
unfoldable pub joined : Sharing → Sharing
joined l =
    let last = length l - 1 in
    take last (set l (last - 1) (bit_xor (get_or l (last - 1) 0) (get_or l last 0)))

-- two lists of n−1 entries: the first n−2 places added, then the last of the first and the last of the second
unfoldable pub summed : Width → Sharing → Sharing → Sharing
summed k p q =
    let last = length p - 1 in
    each (plus k) (take last p) (take last q) ++ (get_or p last 0 ∷ get_or q last 0 ∷ [])

-- n shares, more than one: append a zero share and refresh; refresh shares 2 to n+1, then b; convert the first list,
-- then the second, by the same rule at n−1
unfoldable pub shorter : Width → (Sharing → Draw Sharing) → Sharing → Draw Sharing
shorter k convert x ws at =
    let a = refresh_last (x ++ (0 ∷ [])) ws at in
    let c = refresh_last (drop 1 a.0) ws a.1 in
    let b = refresh_last (psis k a.0) ws c.1 in
    let p = convert (joined c.0) ws b.1 in
    let q = convert (joined b.0) ws p.1 in
    (summed k p.0 q.0, q.1)

-- one share stays
unfoldable pub short_of : Width → Count → Sharing → Draw Sharing
short_of k zero x ws at = (x, at)
short_of k (suc zero) x ws at = (x, at)
short_of k (suc (suc m)) x ws at = shorter k (short_of k (suc m)) x ws at

unfoldable pub to_arith_short : Width → Sharing → Draw Sharing
to_arith_short k x = short_of k (length x) x
