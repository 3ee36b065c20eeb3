-- the blocks that are left, from here on, give what all of them give from the start
use Prim.Native.Nat.{◌+◌, ◌*◌}
use mathlib.Core.Path.{◌≡◌}
use lib.ListN.{length}
use Rattle.rules.specs.Hash.{ending}
use Rattle.rules.specs.Sha1.{publics}
use Rattle.rules.specs.Hmac.{used, blocks}
use Rattle.hash.specs.Hash.{hash, standard}
use Rattle.padding.specs.Whole.{blocks_in}
use Rattle.hash.proofs.Blocks.{Left}
use Rattle.hmac.proofs.text_step.Given as goal

abbrev pub invariant-loop-j : goal.invariant-loop-j
invariant-loop-j l =
    let M = hash l.algorithm in
    let H = standard l.algorithm in
    let W = publics l.n (ending H l.before l.text) in
    let m = blocks_in (length l.text) in
    (l.p ≡ l.at + l.j * M.draws l.n)
    × (Left l.algorithm l.n l.words W l.count l.j (used H l.n l.c.shares) l.p
    ≡ blocks M l.n m W (used H l.n l.initial.c.shares) l.words l.at)
