-- two compressions of start, and one for each full block
use Rattle.std.proofs.Common.{refl, sym, ◌∙◌}
use Rattle.rules.specs.Counts.{hash_of}
use Rattle.rules.specs.Refusals.{code_of}
use Rattle.rules.proofs.Streaming.{state_count}
use Rattle.counts.proofs.state_words.Goals as goal

pub returns : goal.returns
returns c = c.compressions_words.ensures.0 ∙ sym (state_count (hash_of 32 (code_of c.args.algorithm)) _ _ refl)
