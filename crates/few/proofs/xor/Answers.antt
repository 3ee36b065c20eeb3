-- by shares, whatever the count
use lib.Bits.{bit_xor}
use Rattle.few.proofs.Laws.{firsts_each}
use Rattle.few.proofs.xor.Goals as goal

pub returns : goal.returns
returns c = firsts_each bit_xor _ _
