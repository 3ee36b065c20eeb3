-- the digest's block compressed into the outer chain
use borrow.Author.Rules.{rules}
use Rattle.hash.proofs.Chains.{array_end, lent_size}
use Rattle.hmac.proofs.Steps.{digest_most, digest_step_made}
use Rattle.hmac.proofs.digest_step.Goals as goal

pub slice_bounds-digest-end : goal.slice_bounds-digest-end
slice_bounds-digest-end c = search array_end

pub digest_block-requires : goal.digest_block-requires
digest_block-requires c =
    (search rules, search (lent_size, array_end), search (digest_most, lent_size, array_end), search rules)

pub returns : goal.returns
returns c = (search digest_step_made, search rules)
