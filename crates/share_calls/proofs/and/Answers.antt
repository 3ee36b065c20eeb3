-- refused by its query or its tests, with what that leaves; or the rule
use Rattle.std.proofs.Common.{refl, rules, [], ◌∷◌}
use Rattle.rules.specs.Counts.{and_draws}
use Rattle.rules.proofs.Calls.{refused_asked, refused, done}
use Rattle.rules.proofs.Tested.{two_ready, and_needs}
use Rattle.share_calls.proofs.and.Goals as goal

pub returns-in_err-need : goal.returns-in_err-need
returns-in_err-need c = refused_asked (_ ∷ []) _ _ _ _ _ _ _ c.in_err-need.ensures c.from_residual.ensures.1

pub returns-in_err-two_inputs : goal.returns-in_err-two_inputs
returns-in_err-two_inputs c =
    let asked = c.in_ok-need.ensures in
    refused _ _ _ _ _ _ c.in_err-two_inputs.ensures (λ h. search and_needs) _ _ refl
    c.from_residual-in_err-two_inputs.ensures.1

pub and_at-requires : goal.and_at-requires
and_at-requires c =
    let p = two_ready and_draws c.in_ok-need.ensures c.in_ok-two_inputs.ensures refl in
    search rules

pub returns : goal.returns
returns c =
    let asked = c.in_ok-need.ensures in
    let is = c.in_ok-two_inputs.ensures in
    search (done, and_needs)
