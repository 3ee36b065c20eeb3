-- refused by its query or its tests, with what that leaves; or the rule
use Rattle.std.proofs.Common.{refl, rules, [], ◌∷◌}
use Rattle.rules.specs.Counts.{refresh_draws, add_draws, to_arith_draws}
use Rattle.rules.proofs.Calls.{refused_asked, refused, done}
use Rattle.rules.proofs.Tested.{one_ready, to_arith_needs}
use Rattle.share_calls.proofs.b2a.Goals as goal

pub returns-in_err-need : goal.returns-in_err-need
returns-in_err-need c = refused_asked (_ ∷ []) _ _ _ _ _ _ _ c.in_err-need.ensures c.from_residual.ensures.1

pub returns-in_err-one_input : goal.returns-in_err-one_input
returns-in_err-one_input c =
    let asked = c.in_ok-need.ensures in
    refused _ _ _ _ _ _ c.in_err-one_input.ensures (λ h. search to_arith_needs) _ _ refl
    c.from_residual-in_err-one_input.ensures.1

pub to_arith-requires : goal.to_arith-requires
to_arith-requires c =
    let draws = to_arith_draws (add_draws 32) refresh_draws in
    let p = one_ready draws (λ n. n) c.in_ok-need.ensures c.in_ok-one_input.ensures refl in
    search rules

pub returns : goal.returns
returns c =
    let asked = c.in_ok-need.ensures in
    let is = c.in_ok-one_input.ensures in
    search (done, to_arith_needs)
