-- four bytes of the key, the first one highest
use Rattle.key_words.proofs.Words.{number_made}
use Rattle.key_words.proofs.key_word.Goals as goal

pub returns : goal.returns
returns c = search number_made
