-- a word in shares is n places of the slice from w·n on
use Rattle.masked_words.proofs.Parts.{word_part}
use Rattle.masked_words.proofs.word.Goals as goal

pub returns : goal.returns
returns c = let a = c.args in word_part a.n a.w a.s.now c.requires
