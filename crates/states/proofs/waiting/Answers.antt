-- the first bytes of the tail
use Rattle.states.proofs.Tails.{tail_part}
use Rattle.states.proofs.waiting.Goals as goal

pub returns : goal.returns
returns c = let a = c.args in tail_part a.bytes a.tail.now c.requires
