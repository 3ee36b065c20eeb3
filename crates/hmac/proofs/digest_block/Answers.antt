-- the inner digest in shares, then the padding as public words
use borrow.Author.Rules.{rules}
use Rattle.hmac.proofs.Steps.{digest_made, padding_part}
use Rattle.hmac.proofs.digest_block.Goals as goal

pub digest_padding-requires : goal.digest_padding-requires
digest_padding-requires c = (search rules, search padding_part)

pub returns : goal.returns
returns c = search digest_made
