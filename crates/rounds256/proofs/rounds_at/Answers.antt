use mathlib.Core.Path.{refl}
use native.Mathlib.Omega.{arith}
use Rattle.masked_words.proofs.Turned.{turned_none}
use Rattle.masked_words.proofs.Rings.{ring_next, ring_end}
use Rattle.sums.proofs.Parts.{sum_after, sums_after}
use Rattle.rounds256.proofs.rounds_at.Goals as goal

pub loop-t-init : goal.loop-t-init
loop-t-init c = (refl, rw turned_none)

pub loop-t-preserved : goal.loop-t-preserved
loop-t-preserved c = (search sum_after, search (ring_next 8 (omega arith)))

pub returns : goal.returns
returns c = (search (ring_end 8 (omega arith)), search sums_after)
