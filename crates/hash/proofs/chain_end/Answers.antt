-- so many for each share
use Rattle.hash.proofs.Chains.{end_most, end_fits, end_is}
use Rattle.hash.proofs.chain_end.Goals as goal

pub overflow_mul-result : goal.overflow_mul-result
overflow_mul-result c = search end_fits

pub returns : goal.returns
returns c = (search end_is, search end_most)
