-- refused by its query or its tests, with what that leaves; or the rule
use Rattle.std.proofs.Common.{refl, sym, rules, [], ◌∷◌}
use Rattle.rules.specs.Counts.{refresh_draws}
use Rattle.rules.proofs.Calls.{refused_asked, refused, done}
use Rattle.rules.proofs.Loops.{and_room}
use Rattle.rules.proofs.Tested.{one_ready, refresh_needs, refresh_copied}
use Rattle.share_calls.proofs.refresh.Goals as goal

pub returns-in_err-need : goal.returns-in_err-need
returns-in_err-need c = refused_asked (_ ∷ []) _ _ _ _ _ _ _ c.in_err-need.ensures c.from_residual.ensures.1

pub returns-in_err-one_input : goal.returns-in_err-one_input
returns-in_err-one_input c =
    let asked = c.in_ok-need.ensures in
    refused _ _ _ _ _ _ c.in_err-one_input.ensures (λ h. search refresh_needs) _ _ refl
    c.from_residual-in_err-one_input.ensures.1

pub copy-requires : goal.copy-requires
copy-requires c =
    let p = one_ready refresh_draws (λ n. n) c.in_ok-need.ensures c.in_ok-one_input.ensures refl in
    search rules

pub refresh_at-requires : goal.refresh_at-requires
refresh_at-requires c =
    let p = one_ready refresh_draws (λ n. n) c.in_ok-need.ensures c.in_ok-one_input.ensures refl in
    (search rules, and_room _ _ _ (sym p.0) _ (search rules))

pub returns : goal.returns
returns c =
    let asked = c.in_ok-need.ensures in
    let is = c.in_ok-one_input.ensures in
    search (done, refresh_needs, refresh_copied)
