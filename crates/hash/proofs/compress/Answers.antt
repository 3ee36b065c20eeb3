-- the words in use are compressed
use borrow.Author.Rules.{rules}
use Rattle.hash.proofs.Chains.{array_end, lent_size, record_made}
use Rattle.hash.proofs.compress.Goals as goal

pub slice_bounds-all-end : goal.slice_bounds-all-end
slice_bounds-all-end c = search array_end

pub compress_at-p-requires : goal.compress_at-p-requires
compress_at-p-requires c = (search rules, search rules, search rules, search (lent_size, array_end), search rules)

pub returns : goal.returns
returns c = (search record_made, search rules)
