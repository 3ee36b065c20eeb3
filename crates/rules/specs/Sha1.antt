-- Section 6: masked SHA-1, over words of k bits in n shares each. Several words stand one after the other: share i of
-- word w at place w·n + i. The addition of shares is a parameter.
use Rattle.std.specs.Prelude.{ℕ, zero, suc, ◌+◌, ◌-◌, ◌*◌, ◌/◌, ◌^◌, List, [], ◌∷◌, ◌++◌, map, length, replicate, take}
use Rattle.std.specs.Prelude.{drop}
use Rattle.std.specs.Int.Bits.{bit_xor}
use Rattle.words.specs.Word.{Width, Word, shift}
use Rattle.rules.specs.Supply.{Draw, Count, Sharing, opened}
use Rattle.rules.specs.Shares.{each, and}
use Rattle.rules.specs.Convert.{Adder}
use Rattle.rules.specs.Standard.{K}

-- word w of several
unfoldable pub word : Count → ℕ → Sharing → Sharing
word n w s = take n (drop (w * n) s)

-- m words, opened
unfoldable pub open_words : Count → ℕ → Sharing → List Word
open_words n zero s = []
open_words n (suc m) s = opened (take n s) ∷ open_words n m (drop n s)

-- Public values enter as (v, 0, …, 0)
unfoldable pub public : Count → Word → Sharing
public n v = v ∷ replicate (n - 1) 0

unfoldable pub publics : Count → List Word → Sharing
publics n [] = []
publics n (v ∷ vs) = public n v ++ publics n vs

-- Rotation to the left by r goes share by share
unfoldable pub rotl : Width → ℕ → Word → Word
rotl k r x = bit_xor (shift k r x) (x / 2 ^ (k - r))

abbrev pub rotated : Width → ℕ → Sharing → Sharing
rotated k r x = map (rotl k r) x

-- Ch = d ⊕ (b ∧ (c ⊕ d)), Parity, Maj = d ⊕ ((b ⊕ d) ∧ (c ⊕ d)), Parity: the function f of a quarter, one AND each;
-- Parity draws nothing. `blended` is d ⊕ (u ∧ v)
unfoldable pub blended : Sharing → Sharing → Sharing → Draw Sharing
blended u v d ws at =
    let t = and u v ws at in
    (each bit_xor d t.0, t.1)

unfoldable pub chosen : ℕ → Sharing → Sharing → Sharing → Draw Sharing
chosen zero b c d ws at = blended b (each bit_xor c d) d ws at
chosen (suc zero) b c d ws at = (each bit_xor (each bit_xor b c) d, at)
chosen (suc (suc zero)) b c d ws at = blended (each bit_xor b d) (each bit_xor c d) d ws at
chosen (suc (suc (suc q))) b c d ws at = (each bit_xor (each bit_xor b c) d, at)

-- t + f, + e, + K, + W, in this order
unfoldable pub summed : Adder → Sharing → Sharing → Sharing → Sharing → Sharing → Draw Sharing
summed add t f e c w ws at =
    let x = add t f ws at in
    let y = add x.0 e ws x.1 in
    let z = add y.0 c ws y.1 in
    add z.0 w ws z.1

-- A round of quarter q with the schedule's word w draws first for f, then adds ROTL5(a) + f, + e, + K, + W
unfoldable pub temp : Width → Adder → Count → ℕ → Sharing → Sharing → Draw Sharing
temp k add n q w s ws at =
    let f = chosen q (word n 1 s) (word n 2 s) (word n 3 s) ws at in
    summed add (rotated k 5 (word n 0 s)) f.0 (word n 4 s) (public n (K q)) w ws f.1

-- a, b, c, d, e become t, a, ROTL30(b), c, d
unfoldable pub moved : Width → Count → Sharing → Sharing → Sharing
moved k n t s = t ++ (word n 0 s ++ (rotated k 30 (word n 1 s) ++ (word n 2 s ++ word n 3 s)))

unfoldable pub round : Width → Adder → Count → ℕ → Sharing → Sharing → Draw Sharing
round k add n q w s ws at =
    let t = temp k add n q w s ws at in
    (moved k n t.0 s, t.1)

-- m rounds from round t on, each with its word of the schedule W
unfoldable pub rounds : (ℕ → Sharing → Sharing → Draw Sharing) → Count → Sharing → ℕ → ℕ → Sharing → Draw Sharing
rounds round n W zero t s ws at = (s, at)
rounds round n W (suc m) t s ws at =
    let r = round t (word n t W) s ws at in
    rounds round n W m (t + 1) r.0 ws r.1

-- the word j before the end of W
unfoldable pub ago : Count → ℕ → Sharing → Sharing
ago n j W = take n (drop (length W - j * n) W)

-- The schedule is worked out as 80 words: the next, and m more after those of W
unfoldable pub following : Width → Count → Sharing → Sharing
following k n W = rotated k 1 (each bit_xor (each bit_xor (each bit_xor (ago n 3 W) (ago n 8 W)) (ago n 14 W))
    (ago n 16 W))

unfoldable pub schedule : Width → Count → ℕ → Sharing → Sharing
schedule k n zero W = W
schedule k n (suc m) W = schedule k n m (W ++ following k n W)

-- At the end the chain words are added, old value first: m of them, from word i on
unfoldable pub sums : Adder → Count → Sharing → Sharing → ℕ → ℕ → Sharing → Draw Sharing
sums add n h s zero i z ws at = (z, at)
sums add n h s (suc m) i z ws at =
    let x = add (word n i h) (word n i s) ws at in
    sums add n h s m (i + 1) (z ++ x.0) ws x.1

-- one compression, of a block of 16 words into a chain h of 5
unfoldable pub compress : Width → Adder → Count → Sharing → Sharing → Draw Sharing
compress k add n h block ws at =
    let s = rounds (λ t. round k add n (t / 20)) n (schedule k n 64 block) 80 0 h ws at in
    sums add n h s.0 5 0 [] ws s.1
