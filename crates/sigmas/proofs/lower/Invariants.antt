-- up to share i the shares are those of σ
use mathlib.Core.Path.{◌≡◌}
use mathlib.Core.List.{map}
use lib.ListN.{take}
use Rattle.rules.specs.Sha256.{falls}
use Rattle.sigmas.proofs.lower.Given as goal

abbrev pub invariant-loop-i : goal.invariant-loop-i
invariant-loop-i l = take l.i l.z ≡ take l.i (map (falls 32 l.p l.q l.r) l.x)
