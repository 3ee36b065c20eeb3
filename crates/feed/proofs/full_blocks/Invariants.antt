-- the blocks that are left, from here on, give what all of them give from the start
use Prim.Native.Nat.{◌+◌, ◌-◌, ◌*◌, ◌/◌}
use mathlib.Core.Path.{◌≡◌}
use mathlib.Core.List.{◌++◌}
use lib.ListN.{length, drop}
use Rattle.rules.specs.Hmac.{used}
use Rattle.rules.specs.Stream.{full_blocks}
use Rattle.hash.specs.Hash.{hash, standard}
use Rattle.feed.proofs.full_blocks.Given as goal

abbrev pub invariant-loop-j : goal.invariant-loop-j
invariant-loop-j l =
    let M = hash l.algorithm in
    let H = standard l.algorithm in
    let text = l.tail ++ l.piece in
    let m = (length l.tail + length l.piece) / 64 in
    (l.p ≡ l.at + l.j * M.draws l.n)
    × (full_blocks M l.n (l.count - l.j) (drop (64 * l.j) text) (used H l.n l.c.shares) l.words l.p
    ≡ full_blocks M l.n m text (used H l.n l.initial.c.shares) l.words l.at)
