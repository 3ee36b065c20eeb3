-- refused by its query or its tests, with the state as it was; or the rule
use Rattle.std.proofs.Common.{refl, rules, [], ◌∷◌}
use Rattle.rules.specs.Refusals.{code_of}
use Rattle.rules.proofs.Calls.{refused_asked, refused, done}
use Rattle.rules.proofs.Tested.{block_ready}
use Rattle.rules.proofs.StreamCalls.{start_needs}
use Rattle.calls.proofs.started.Goals as goal

pub returns-in_err-need : goal.returns-in_err-need
returns-in_err-need c = refused_asked (_ ∷ []) _ _ _ _ _ _ _ c.in_err-need.ensures c.from_residual.ensures.1

pub returns-in_err-compressing : goal.returns-in_err-compressing
returns-in_err-compressing c =
    let asked = c.in_ok-need.ensures in
    refused _ _ _ _ _ _ c.in_err-compressing.ensures
    (λ h. start_needs (code_of c.args.algorithm) _ _ _ _ _ h asked) _ _ refl
    c.from_residual-in_err-compressing.ensures.1

pub start_at-made-requires : goal.start_at-made-requires
start_at-made-requires c =
    let p = block_ready c.in_ok-need.ensures c.in_ok-compressing.ensures refl in
    search rules

pub returns : goal.returns
returns c =
    let asked = c.in_ok-need.ensures in
    done _ _ _ _ _ _ c.in_ok-compressing.ensures (λ h. start_needs (code_of c.args.algorithm) _ _ _ _ _ h asked) _ _
    refl c.start_at-made.ensures
