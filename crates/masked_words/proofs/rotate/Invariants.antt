-- up to share i the shares are rotated
use mathlib.Core.Path.{◌≡◌}
use lib.ListN.{take}
use Rattle.rules.specs.Sha1.{rotated}
use Rattle.masked_words.proofs.rotate.Given as goal

abbrev pub invariant-loop-i : goal.invariant-loop-i
invariant-loop-i l = take l.i l.z ≡ take l.i (rotated 32 l.r l.x)
