-- up to the next place every entry is the Ψ of its share
use mathlib.Core.Path.{◌≡◌}
use mathlib.Core.List.{map}
use lib.ListN.{length, take}
use Rattle.width.specs.Width.{bits}
use Rattle.rules.specs.Goubin.{psi}
use Rattle.short.proofs.psi_each.Given as goal

abbrev pub invariant-loop-i : goal.invariant-loop-i
invariant-loop-i l =
    let s = l.i-iterator in
    (s.end ≡ length l.r) × (take s.at l.b ≡ take s.at (map (psi bits l.x) l.r))
