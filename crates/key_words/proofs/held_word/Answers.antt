-- a word of the key, or zeros past its end
use borrow.Author.Rules.{rules}
use Rattle.key_words.proofs.Held.{zeros_made, held_made}
use Rattle.key_words.proofs.held_word.Goals as goal

pub returns-then-lasts-i : goal.returns-then-lasts-i
returns-then-lasts-i c = search (zeros_made, c.fill.ensures.after)

pub returns : goal.returns
returns c = search (held_made, rules)
