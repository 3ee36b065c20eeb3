-- word i from word r on is the word at its place
use borrow.Author.Rules.{rules}
use Rattle.masked_words.proofs.Turned.{turned_word}
use Rattle.masked_words.proofs.turned_word.Goals as goal

pub returns : goal.returns
returns c = (search turned_word, search rules)
