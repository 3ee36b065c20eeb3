-- a store over the word at its place is one over word i from word r on
use Rattle.masked_words.proofs.Turned.{turned_sets}
use Rattle.masked_words.proofs.put_turned.Goals as goal

pub returns : goal.returns
returns c = search turned_sets
