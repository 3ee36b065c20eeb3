-- two shifts that share no bit are the rotation
use mathlib.Core.Path.{refl}
use Rattle.words.specs.Word.{shift}
use Rattle.rules.specs.Sha1.{rotl}
use Rattle.masked_words.proofs.rotate_share.Goals as goal

pub returns : goal.returns
unfolding rotl shift
returns c = refl
