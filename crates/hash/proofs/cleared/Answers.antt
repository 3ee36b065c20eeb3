-- the words in use, in front of zeros
use Rattle.hash.proofs.Chains.{array_end, cleared_made}
use Rattle.hash.proofs.cleared.Goals as goal

pub clear_rest-requires : goal.clear_rest-requires
clear_rest-requires c = search array_end

pub returns : goal.returns
returns c = search cleared_made
