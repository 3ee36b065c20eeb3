-- refused by its query or its tests, with what that leaves; or the rule
use Rattle.std.proofs.Common.{refl, rules, [], ◌∷◌}
use Rattle.rules.proofs.Calls.{refused_asked, refused, done}
use Rattle.rules.proofs.Tested.{split_ready, split_needs, split_sized}
use Rattle.share_calls.proofs.split.Goals as goal

pub returns-in_err-need : goal.returns-in_err-need
returns-in_err-need c = refused_asked (_ ∷ []) _ _ _ _ _ _ _ c.in_err-need.ensures c.from_residual.ensures.1

pub returns-in_err-splitting : goal.returns-in_err-splitting
returns-in_err-splitting c =
    let asked = c.in_ok-need.ensures in
    refused _ _ _ _ _ _ c.in_err-splitting.ensures (λ h. search split_needs) _ _ refl
    c.from_residual-in_err-splitting.ensures.1

pub split_at-requires : goal.split_at-requires
split_at-requires c =
    let p = split_ready c.in_ok-need.ensures c.in_ok-splitting.ensures refl in
    search rules

pub returns : goal.returns
returns c =
    let asked = c.in_ok-need.ensures in
    let is = c.in_ok-splitting.ensures in
    search (done, split_needs, split_sized)
