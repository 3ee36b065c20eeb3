-- four bytes of the text with its padding, the first one highest
use Rattle.padding.proofs.Padded.{text_word}
use Rattle.padding.proofs.word_at.Goals as goal

pub returns : goal.returns
returns c = search text_word
