-- the digest in front of zeros
use Rattle.hash.proofs.Chains.{array_end}
use Rattle.keys.proofs.Long.{digest_made}
use Rattle.keys.proofs.digest_block.Goals as goal

pub slice_bounds-digest-end : goal.slice_bounds-digest-end
slice_bounds-digest-end c = search array_end

pub returns : goal.returns
returns c = search (digest_made, c.fill.ensures.after)
