-- the compression of a copy of the block
use Rattle.hash.proofs.Chains.{record_copied}
use Rattle.hash.proofs.compress_record.Goals as goal

pub returns : goal.returns
returns c = search record_copied
