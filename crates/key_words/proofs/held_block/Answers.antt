use Rattle.key_words.proofs.Held.{block_next}
use Rattle.key_words.proofs.held_block.Goals as goal

pub loop-w-preserved : goal.loop-w-preserved
loop-w-preserved c = search block_next
