-- refused by its query or its tests, with what that leaves; or the rule
use Rattle.std.proofs.Common.{refl, rules, [], ◌∷◌, ◌*◌}
use Rattle.rules.proofs.Calls.{refused_asked, refused, done}
use Rattle.rules.proofs.Tested.{one_ready, expand_needs}
use Rattle.share_calls.proofs.expand.Goals as goal

pub returns-in_err-need : goal.returns-in_err-need
returns-in_err-need c = refused_asked (_ ∷ []) _ _ _ _ _ _ _ c.in_err-need.ensures c.from_residual.ensures.1

pub returns-in_err-widening : goal.returns-in_err-widening
returns-in_err-widening c =
    let asked = c.in_ok-need.ensures in
    refused _ _ _ _ _ _ c.in_err-widening.ensures (λ h. search expand_needs) _ _ refl
    c.from_residual-in_err-widening.ensures.1

pub expand_at-requires : goal.expand_at-requires
expand_at-requires c =
    let p = one_ready (λ n. n) (λ n. 2 * n) c.in_ok-need.ensures c.in_ok-widening.ensures refl in
    search rules

pub returns : goal.returns
returns c =
    let asked = c.in_ok-need.ensures in
    let is = c.in_ok-widening.ensures in
    search (done, expand_needs)
