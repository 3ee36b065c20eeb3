-- up to word w the block's words stand
use Prim.Native.Nat.{◌+◌, ◌*◌}
use mathlib.Core.Path.{◌≡◌}
use lib.ListN.{take, drop}
use Rattle.rules.specs.Hash.{filled}
use Rattle.key_words.specs.Held.{held}
use Rattle.key_words.proofs.held_block.Given as goal

abbrev pub invariant-loop-w : goal.invariant-loop-w
invariant-loop-w l =
    let whole = filled (l.j * (16 * l.n) + 16 * l.n) (held l.n l.lasts l.words l.at) in
    take (l.w * l.n) l.z ≡ take (l.w * l.n) (take (16 * l.n) (drop (l.j * (16 * l.n)) whole))
