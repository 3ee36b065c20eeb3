-- by shares, whatever the count
use Rattle.width.specs.Width.{bits}
use Rattle.words.specs.Word.{shift}
use Rattle.rules.specs.Shares.{double_xor}
use Rattle.few.proofs.Laws.{firsts_each}
use Rattle.few.proofs.double_xor.Goals as goal

pub returns : goal.returns
unfolding shift
returns c = firsts_each (double_xor bits) _ _
