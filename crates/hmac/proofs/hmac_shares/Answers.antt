-- the inner half, then the outer one: the rule's order
use borrow.Author.Rules.{rules}
use Rattle.hmac.proofs.Steps.{hmac_made, hmac_count, inner_room, outer_room}
use Rattle.hmac.proofs.hmac_shares.Goals as goal

pub inner_step-inner-requires : goal.inner_step-inner-requires
inner_step-inner-requires c = (search rules, search rules, search rules, search rules, search rules, search inner_room)

pub outer_step-requires : goal.outer_step-requires
outer_step-requires c = (search rules, search rules, search rules, search rules, search outer_room)

pub returns : goal.returns
returns c = (search hmac_made, search hmac_count)
