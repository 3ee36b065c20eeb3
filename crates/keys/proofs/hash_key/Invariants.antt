-- the blocks that are left, from here on, give what all of them give from the start
use Prim.Native.Nat.{◌+◌, ◌*◌}
use mathlib.Core.Path.{◌≡◌}
use Rattle.rules.specs.Sha1.{publics}
use Rattle.rules.specs.Hmac.{used, blocks}
use Rattle.hash.specs.Hash.{hash, standard}
use Rattle.hash.proofs.Blocks.{Left}
use Rattle.padding.specs.Whole.{blocks_in}
use Rattle.key_words.specs.Held.{held}
use Rattle.keys.specs.Padded.{padded}
use Rattle.keys.proofs.hash_key.Given as goal

abbrev pub invariant-loop-j : goal.invariant-loop-j
invariant-loop-j l =
    let M = hash l.algorithm in
    let H = standard l.algorithm in
    let W = padded l.n l.bytes (held l.n l.lasts l.words l.at) in
    let m = blocks_in l.bytes in
    (l.q ≡ l.p + l.j * M.draws l.n)
    × (Left l.algorithm l.n l.words W l.count l.j (used H l.n l.c.shares) l.q
    ≡ blocks M l.n m W (publics l.n H.start) l.words l.p)
