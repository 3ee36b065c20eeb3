-- refused by its query or its tests, with what that leaves; or the rule
use Rattle.std.proofs.Common.{refl, rules, [], ◌∷◌}
use Rattle.rules.specs.Counts.{short_draws}
use Rattle.rules.proofs.Calls.{refused_asked, refused, done}
use Rattle.rules.proofs.Tested.{short_ready, to_arith_short_needs}
use Rattle.share_calls.proofs.b2a_short.Goals as goal

pub returns-in_err-need : goal.returns-in_err-need
returns-in_err-need c = refused_asked (_ ∷ []) _ _ _ _ _ _ _ c.in_err-need.ensures c.from_residual.ensures.1

pub returns-in_err-short_input : goal.returns-in_err-short_input
returns-in_err-short_input c =
    let asked = c.in_ok-need.ensures in
    refused _ _ _ _ _ _ c.in_err-short_input.ensures (λ h. search to_arith_short_needs) _ _ refl
    c.from_residual-in_err-short_input.ensures.1

pub to_arith_short-requires : goal.to_arith_short-requires
to_arith_short-requires c =
    let p = short_ready short_draws c.in_ok-need.ensures c.in_ok-short_input.ensures refl in
    search rules

pub returns : goal.returns
returns c =
    let asked = c.in_ok-need.ensures in
    let is = c.in_ok-short_input.ensures in
    search (done, to_arith_short_needs)
