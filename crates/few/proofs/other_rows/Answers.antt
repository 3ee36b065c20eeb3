-- by the count
use Rattle.few.proofs.Laws.{no_others, others_of_more, others_room, others_place, none_place}
use Rattle.few.proofs.other_rows.Goals as goal

pub returns-then-n-lt3 : goal.returns-then-n-lt3
returns-then-n-lt3 c = (search no_others, search none_place)

pub rows_of_four-requires : goal.rows_of_four-requires
rows_of_four-requires c = search others_room

pub returns : goal.returns
returns c = (search others_of_more, search others_place)
