use borrow.Author.Rules.{rules}
use Rattle.hash.proofs.Blocks.{blocks_end, block_place}
use Rattle.hmac.proofs.Steps.{text_next}
use Rattle.hmac.proofs.text_step.Goals as goal

pub loop-j-preserved : goal.loop-j-preserved
loop-j-preserved c = (search rules, search text_next)

pub returns : goal.returns
returns c = (search blocks_end, search block_place)
