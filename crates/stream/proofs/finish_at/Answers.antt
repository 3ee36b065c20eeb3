-- the rest of the message, the digest block, and the tag opened
use borrow.Author.Rules.{rules}
use native.Mathlib.Omega.{arith}
use Rattle.tags.proofs.Opened.{tag_known}
use Rattle.stream.proofs.Steps.{last_fits, last_room, digest_room, finish_made, finish_place}
use Rattle.stream.proofs.finish_at.Goals as goal

pub text_step-inner-requires : goal.text_step-inner-requires
text_step-inner-requires c =
    (search rules, search rules, omega arith, search (last_fits, rules), search rules, search last_room)

pub digest_step-last-requires : goal.digest_step-last-requires
digest_step-last-requires c = (search rules, search rules, search rules, search digest_room)

pub returns : goal.returns
returns c = (search (finish_made, tag_known), search finish_place)
