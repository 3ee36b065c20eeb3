-- up to share i the shares are those of Σ
use mathlib.Core.Path.{◌≡◌}
use mathlib.Core.List.{map}
use lib.ListN.{take}
use Rattle.rules.specs.Sha256.{turns}
use Rattle.sigmas.proofs.upper.Given as goal

abbrev pub invariant-loop-i : goal.invariant-loop-i
invariant-loop-i l = take l.i l.z ≡ take l.i (map (turns 32 l.p l.q l.r) l.x)
