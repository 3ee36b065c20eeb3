use borrow.Author.Rules.{rules}
use Rattle.hash.proofs.Blocks.{block_place}
use Rattle.key_words.proofs.Held.{lasts_next, lasts_end}
use Rattle.key_words.proofs.last_shares.Goals as goal

pub loop-w-preserved : goal.loop-w-preserved
loop-w-preserved c = (search rules, search (lasts_next, rules))

pub returns : goal.returns
returns c = (search (lasts_end, rules), search block_place)
