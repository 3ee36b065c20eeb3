-- zeros everywhere, and the value in share 1
use Rattle.masked_words.proofs.Parts.{public_made}
use Rattle.masked_words.proofs.public.Goals as goal

pub returns : goal.returns
returns c = search (public_made, c.fill.ensures.after)
