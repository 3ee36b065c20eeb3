-- the words in use are compressed; the others of the record are 0
use borrow.Author.Rules.{rules}
use Rattle.hash.proofs.Chains.{record_room, record_end, record_lent, record_compressed}
use Rattle.hash.proofs.compress_in.Goals as goal

pub clear_rest-requires : goal.clear_rest-requires
clear_rest-requires c = search record_room

pub slice_bounds-z-end : goal.slice_bounds-z-end
slice_bounds-z-end c = search record_end

pub compress_at-requires : goal.compress_at-requires
compress_at-requires c = (search rules, search rules, search rules, search record_lent, search rules)

pub returns : goal.returns
returns c = search record_compressed
