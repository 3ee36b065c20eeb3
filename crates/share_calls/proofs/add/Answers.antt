-- refused by its query or its tests, with what that leaves; or the rule
use Rattle.std.proofs.Common.{refl, rules, [], ◌∷◌}
use Rattle.rules.specs.Counts.{add_draws}
use Rattle.rules.proofs.Calls.{refused_asked, refused, done}
use Rattle.rules.proofs.Tested.{two_ready, add_needs}
use Rattle.share_calls.proofs.add.Goals as goal

pub returns-in_err-need : goal.returns-in_err-need
returns-in_err-need c = refused_asked (_ ∷ []) _ _ _ _ _ _ _ c.in_err-need.ensures c.from_residual.ensures.1

pub returns-in_err-two_inputs : goal.returns-in_err-two_inputs
returns-in_err-two_inputs c =
    let asked = c.in_ok-need.ensures in
    refused _ _ _ _ _ _ c.in_err-two_inputs.ensures (λ h. search (add_needs, rules)) _ _ refl
    c.from_residual-in_err-two_inputs.ensures.1

pub add_at-requires : goal.add_at-requires
add_at-requires c =
    let p = two_ready (add_draws 32) c.in_ok-need.ensures c.in_ok-two_inputs.ensures refl in
    search rules

pub returns : goal.returns
returns c =
    let asked = c.in_ok-need.ensures in
    let is = c.in_ok-two_inputs.ensures in
    search (done, add_needs, rules)
