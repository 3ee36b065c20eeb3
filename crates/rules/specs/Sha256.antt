-- Request (vii): masked SHA-256, over words of k bits in n shares each, with the words, the functions and the sums of
-- masked SHA-1. The addition of shares is a parameter.
use Rattle.std.specs.Prelude.{ℕ, zero, suc, ◌-◌, ◌/◌, ◌^◌, [], ◌++◌, map}
use Rattle.std.specs.Int.Bits.{bit_xor}
use Rattle.words.specs.Word.{Width, Word}
use Rattle.rules.specs.Supply.{Draw, Count, Sharing}
use Rattle.rules.specs.Convert.{Adder}
use Rattle.rules.specs.Standard256.{K}
use Rattle.rules.specs.Sha1.{word, public, rotl, chosen, summed, rounds, ago, sums}

-- Σ and σ go share by share: three rotations to the right; two, and a shift
abbrev rotr : Width → ℕ → Word → Word
rotr k r x = rotl k (k - r) x

unfoldable pub turns : Width → ℕ → ℕ → ℕ → Word → Word
turns k p q r x = bit_xor (bit_xor (rotr k p x) (rotr k q x)) (rotr k r x)

unfoldable pub falls : Width → ℕ → ℕ → ℕ → Word → Word
falls k p q r x = bit_xor (bit_xor (rotr k p x) (rotr k q x)) (x / 2 ^ r)

abbrev pub Σ0 : Width → Sharing → Sharing
Σ0 k x = map (turns k 2 13 22) x

abbrev pub Σ1 : Width → Sharing → Sharing
Σ1 k x = map (turns k 6 11 25) x

abbrev pub σ0 : Width → Sharing → Sharing
σ0 k x = map (falls k 7 18 3) x

abbrev pub σ1 : Width → Sharing → Sharing
σ1 k x = map (falls k 17 19 10) x

-- The next schedule word is σ1 + W[t−7], + σ0, + W[t−16]; m of them are added up before round 0, in index order
unfoldable pub following : Width → Adder → Count → Sharing → Draw Sharing
following k add n W ws at =
    let x = add (σ1 k (ago n 2 W)) (ago n 7 W) ws at in
    let y = add x.0 (σ0 k (ago n 15 W)) ws x.1 in
    add y.0 (ago n 16 W) ws y.1

unfoldable pub schedule : Width → Adder → Count → ℕ → Sharing → Draw Sharing
schedule k add n zero W ws at = (W, at)
schedule k add n (suc m) W ws at =
    let x = following k add n W ws at in
    schedule k add n m (W ++ x.0) ws x.1

-- A round draws first for Ch of e, f, g, then for Maj of a, b, c, with the formulas of SHA-1's quarters; then it adds
-- T1 = h + Σ1(e), + Ch, + K, + W, and T2 = Σ0(a) + Maj
unfoldable pub temps : Width → Adder → Count → ℕ → Sharing → Sharing → Draw (Sharing × Sharing)
temps k add n t w s ws at =
    let f = chosen 0 (word n 4 s) (word n 5 s) (word n 6 s) ws at in
    let g = chosen 2 (word n 0 s) (word n 1 s) (word n 2 s) ws f.1 in
    let x = summed add (word n 7 s) (Σ1 k (word n 4 s)) f.0 (public n (K t)) w ws g.1 in
    let y = add (Σ0 k (word n 0 s)) g.0 ws x.1 in
    ((x.0, y.0), y.1)

-- a, b, c, d, e, f, g, h become t, a, b, c, u, e, f, g
unfoldable pub moved : Count → Sharing → Sharing → Sharing → Sharing
moved n t u s =
    t ++ (word n 0 s ++ (word n 1 s ++ (word n 2 s ++ (u ++ (word n 4 s ++ (word n 5 s ++ word n 6 s))))))

-- u = d + T1, then t = T1 + T2
unfoldable pub renewed : Adder → Count → Sharing → Sharing → Sharing → Draw Sharing
renewed add n T1 T2 s ws at =
    let u = add (word n 3 s) T1 ws at in
    let t = add T1 T2 ws u.1 in
    (moved n t.0 u.0 s, t.1)

unfoldable pub round : Width → Adder → Count → ℕ → Sharing → Sharing → Draw Sharing
round k add n t w s ws at =
    let T = temps k add n t w s ws at in
    renewed add n T.0.0 T.0.1 s ws T.1

-- one compression, of a block of 16 words into a chain h of 8; the chain sums follow the rounds
unfoldable pub compress : Width → Adder → Count → Sharing → Sharing → Draw Sharing
compress k add n h block ws at =
    let W = schedule k add n 48 block ws at in
    let s = rounds (round k add n) n W.0 64 0 h ws W.1 in
    sums add n h s.0 8 0 [] ws s.1
