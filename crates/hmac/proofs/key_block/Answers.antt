-- a copy of the key, with the constant in share 1 of each word
use Rattle.hmac.proofs.Steps.{key_block_made}
use Rattle.hmac.proofs.key_block.Goals as goal

pub returns : goal.returns
returns c = search key_block_made
