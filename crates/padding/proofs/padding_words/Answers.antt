-- zeros where whole blocks stand; then the last blocks, of the zeros that are left
use Rattle.padding.proofs.Padded.{pad_full, pad_last}
use Rattle.padding.proofs.padding_words.Goals as goal

pub returns-then-j-full : goal.returns-then-j-full
returns-then-j-full c = search (pad_full, c.fill.ensures.after)

pub returns : goal.returns
returns c = search pad_last
