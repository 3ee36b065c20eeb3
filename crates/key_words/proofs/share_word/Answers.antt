-- the words of the supply in front, and then the last share
use Rattle.key_words.proofs.Held.{share_made}
use Rattle.key_words.proofs.share_word.Goals as goal

pub returns : goal.returns
returns c = search share_made
