-- the words of the padding, by the hash
use Rattle.hmac.proofs.Steps.{sha1_padding, sha256_padding}
use Rattle.hmac.proofs.digest_padding.Goals as goal

pub returns-in-Sha1 : goal.returns-in-Sha1
returns-in-Sha1 c = search sha1_padding

pub returns-in-Sha256 : goal.returns-in-Sha256
returns-in-Sha256 c = search sha256_padding
