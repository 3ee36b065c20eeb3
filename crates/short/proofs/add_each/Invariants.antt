-- up to the next place the sums, and from there on y as it came
use mathlib.Core.Path.{◌≡◌}
use mathlib.Core.List.{◌++◌}
use lib.ListN.{length, take, drop}
use Rattle.width.specs.Width.{bits}
use Rattle.words.specs.Word.{plus}
use Rattle.rules.specs.Shares.{each}
use Rattle.short.proofs.add_each.Given as goal

abbrev pub invariant-loop-i : goal.invariant-loop-i
invariant-loop-i l =
    let s = l.i-iterator in
    (s.end ≡ length l.x) × (l.y ≡ take s.at (each (plus bits) l.x l.initial.y) ++ drop s.at l.initial.y)
