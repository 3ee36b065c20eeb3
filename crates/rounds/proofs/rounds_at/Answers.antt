use borrow.Author.Rules.{rules}
use mathlib.Core.Path.{refl}
use native.Mathlib.Omega.{arith}
use Rattle.masked_words.proofs.Turned.{turned_none}
use Rattle.masked_words.proofs.Rings.{ring_next, ring_end}
use Rattle.schedule.proofs.Parts.{window_begins, window_word, window_next}
use Rattle.rounds.proofs.Parts.{round_room, round_after, rounds_after}
use Rattle.rounds.proofs.rounds_at.Goals as goal

pub loop-t-init : goal.loop-t-init
loop-t-init c = (refl, search window_begins, rw turned_none)

pub round_of-p-requires : goal.round_of-p-requires
round_of-p-requires c = (search rules, search rules, search rules, search rules, search rules, search round_room)

pub loop-t-preserved : goal.loop-t-preserved
loop-t-preserved c = (
  search round_after,
  search (window_next, rules),
  search (ring_next 5 (omega arith), window_word),
)

pub returns : goal.returns
returns c = (search (ring_end 5 (omega arith)), search rounds_after)
