-- the used words of the chain, opened
use Rattle.hash.proofs.Chains.{array_end}
use Rattle.tags.proofs.Opened.{lent_words, tag_size_lem, tag_opened}
use Rattle.tags.proofs.tag_bytes.Goals as goal

pub slice_bounds-open_bytes-end : goal.slice_bounds-open_bytes-end
slice_bounds-open_bytes-end c = search array_end

pub open_bytes-requires : goal.open_bytes-requires
open_bytes-requires c = (search lent_words, search tag_size_lem)

pub returns : goal.returns
returns c = search tag_opened
