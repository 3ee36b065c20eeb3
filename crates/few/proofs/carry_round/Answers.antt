-- two shares have a round of their own; else the AND by its rows and one doubling are one round of the rule
use borrow.Author.Rules.{rules}
use Rattle.few.proofs.Laws.{two_room, two_place, round_of_two, row_room, rest_room, and_place, round_made}
use Rattle.few.proofs.carry_round.Goals as goal

pub carry_two-requires : goal.carry_two-requires
carry_two-requires c = search two_room

pub returns-then-n-eq2 : goal.returns-then-n-eq2
returns-then-n-eq2 c = (search round_of_two, search two_place)

pub first_row-z-requires : goal.first_row-z-requires
first_row-z-requires c = (search rules, search row_room)

pub other_rows-t-requires : goal.other_rows-t-requires
other_rows-t-requires c = (search rules, search rest_room)

pub returns : goal.returns
returns c = (search round_made, search and_place)
