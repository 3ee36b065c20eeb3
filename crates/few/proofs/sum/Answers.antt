-- AND, XOR, carry loop and XOR, one after the other, are the rule's addition
use borrow.Author.Rules.{rules}
use Rattle.few.proofs.Laws.{sum_made, sum_first, sum_others, sum_carry, sum_place}
use Rattle.few.proofs.sum.Goals as goal

pub first_row-z-requires : goal.first_row-z-requires
first_row-z-requires c = (search rules, search sum_first)

pub other_rows-w-requires : goal.other_rows-w-requires
other_rows-w-requires c = (search rules, search sum_others)

pub carry-u-requires : goal.carry-u-requires
carry-u-requires c = (search rules, search sum_carry)

pub returns : goal.returns
returns c = (search sum_made, search sum_place)
