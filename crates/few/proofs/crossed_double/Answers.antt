-- twice a ⊕ is the ⊕ of the doubles
use Rattle.words.specs.Word.{shift}
use Rattle.width.specs.Width.{bits}
use Rattle.few.proofs.Laws.{doubled}
use Rattle.few.proofs.crossed_double.Goals as goal

pub returns : goal.returns
unfolding shift
returns c = search (doubled bits)
