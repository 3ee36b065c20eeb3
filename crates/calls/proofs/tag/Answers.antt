-- refused by its tests, with what that leaves; or the rule
use Rattle.std.proofs.Common.{refl, rules}
use borrow.Author.Tests.{eqb-true}
use Rattle.rules.proofs.Calls.{answered, refused, done}
use Rattle.rules.proofs.Codes.{hmac_by}
use Rattle.rules.proofs.Tested.{tag_ready, short_text, hmac_tag_needs}
use Rattle.calls.proofs.tag.Goals as goal

pub returns-in_err-tagging : goal.returns-in_err-tagging
returns-in_err-tagging c =
    let asked = answered _ _ _ _ c.hmac_words.ensures c.unwrap_or-need.ensures in
    hmac_by 32 c.args.code _ c.from-algorithm.result _ _ _ _ c.from-algorithm.ensures
    (refused _ _ _ _ _ _ c.in_err-tagging.ensures (λ h. search hmac_tag_needs) _ _ refl c.from_residual.ensures.1)

pub hmac_tag-requires : goal.hmac_tag-requires
hmac_tag-requires c =
    let asked = answered _ _ _ _ c.hmac_words.ensures c.unwrap_or-need.ensures in
    let p = tag_ready asked c.in_ok-tagging.ensures refl in
    search (eqb-true, short_text, rules)

pub returns : goal.returns
returns c =
    let asked = answered _ _ _ _ c.hmac_words.ensures c.unwrap_or-need.ensures in
    let is = c.in_ok-tagging.ensures in
    hmac_by 32 c.args.code _ c.from-algorithm.result _ _ _ _ c.from-algorithm.ensures (search (done, hmac_tag_needs))
