-- refused by its tests, with what that leaves; or the rule
use Rattle.std.proofs.Common.{refl, rules}
use borrow.Author.Tests.{leb-true}
use Rattle.rules.proofs.Calls.{answered, refused, done}
use Rattle.rules.proofs.Codes.{split_key_by}
use Rattle.rules.proofs.Tested.{key_ready, split_key_needs}
use Rattle.calls.proofs.split_key.Goals as goal

pub returns-in_err-key_splitting : goal.returns-in_err-key_splitting
returns-in_err-key_splitting c =
    let asked = answered _ _ _ _ c.key_words.ensures c.unwrap_or-need.ensures in
    split_key_by 32 c.args.code _ c.from-algorithm.result _ _ _ c.from-algorithm.ensures
    (refused _ _ _ _ _ _ c.in_err-key_splitting.ensures (λ h. search split_key_needs) _ _ refl
    c.from_residual.ensures.1)

pub split_key-requires : goal.split_key-requires
split_key-requires c =
    let asked = answered _ _ _ _ c.key_words.ensures c.unwrap_or-need.ensures in
    let p = key_ready asked c.in_ok-key_splitting.ensures refl in
    search (leb-true, rules)

pub returns : goal.returns
returns c =
    let asked = answered _ _ _ _ c.key_words.ensures c.unwrap_or-need.ensures in
    let is = c.in_ok-key_splitting.ensures in
    split_key_by 32 c.args.code _ c.from-algorithm.result _ _ _ c.from-algorithm.ensures
    (search (done, split_key_needs))
