-- the sum goes into the word's own place; those before it and behind it stay
use borrow.Author.Rules.{rules}
use Rattle.sums.proofs.Parts.{stored_sum, stored_front, stored_rest}
use Rattle.sums.proofs.sum_at.Goals as goal

pub returns : goal.returns
returns c = (search stored_sum, search stored_front, search stored_rest, search rules)
