-- up to word w the block's words stand
use Prim.Native.Nat.{◌*◌}
use mathlib.Core.Path.{◌≡◌}
use lib.ListN.{take, drop}
use Rattle.rules.specs.Hash.{ending}
use Rattle.rules.specs.Standard.{SHA1}
use Rattle.padding.proofs.block_words.Given as goal

abbrev pub invariant-loop-w : goal.invariant-loop-w
invariant-loop-w l =
    take l.w l.z ≡ take l.w (take 16 (drop (16 * l.j) (ending (SHA1 32) l.before l.text)))
