-- the shares of the tag, then their opening
use Rattle.tags.proofs.Opened.{tag_known}
use Rattle.hmac.proofs.Steps.{tag_made}
use Rattle.hmac.proofs.hmac_tag.Goals as goal

pub returns : goal.returns
returns c = search (tag_made, tag_known)
