-- one AND, then XOR by shares: d ⊕ (u ∧ v)
use borrow.Author.Rules.{rules}
use Rattle.rules.proofs.Loops.{and_room, and_place}
use Rattle.choices.proofs.Parts.{blended_made}
use Rattle.choices.proofs.blend.Goals as goal

pub and_at-p-requires : goal.and_at-p-requires
and_at-p-requires c = (search rules, search rules, search and_room)

pub returns : goal.returns
returns c = (search blended_made, search and_place)
