-- refused by its query or by the supply, with the state as it was; or the rule
use Rattle.std.proofs.Common.{refl, sym, ap, [], ◌∷◌}
use borrow.Author.Tests.{leb-true}
use Rattle.rules.specs.declared.Answer.{Answer}
use Rattle.rules.specs.Refusals.{code_of}
use Rattle.rules.proofs.Calls.{holds, one_more, refused_asked, refused, done}
use Rattle.rules.proofs.StreamCalls.{feed_ready, feed_needs, fed}
use Rattle.calls.proofs.fed.Goals as goal

pub returns-in_err-need-clause-outcome : goal.returns-in_err-need-clause-outcome
returns-in_err-need-clause-outcome c =
    fed _ _ _ _ (refused_asked (_ ∷ _ ∷ []) [] _ _ _ _ _ _ c.in_err-need.ensures c.from_residual.ensures.1)

pub returns-in_err-require-clause-outcome : goal.returns-in_err-require-clause-outcome
returns-in_err-require-clause-outcome c =
    let asked = c.in_ok-need.ensures in
    let is = one_more (_ ∷ _ ∷ []) _ 0 _ (ap (λ (a : Answer). a.number) asked) (sym c.in_err-require.ensures) in
    fed _ _ _ _ (refused _ _ _ _ _ _ is (λ h. feed_needs (code_of c.args.algorithm) _ _ _ _ c.requires _ h asked) _ _
    refl c.from_residual-in_err-require.ensures.1)

pub feed_at-requires : goal.feed_at-requires
feed_at-requires c =
    feed_ready (code_of c.args.algorithm) _ _ _ _ _ _ _ _ c.in_ok-need.ensures
    (leb-true _ _ (holds _ _ c.in_ok-require.ensures))

pub returns-clause-outcome : goal.returns-clause-outcome
returns-clause-outcome c =
    let asked = c.in_ok-need.ensures in
    let is = one_more (_ ∷ _ ∷ []) _ 0 _ (ap (λ (a : Answer). a.number) asked) (sym c.in_ok-require.ensures) in
    fed _ _ _ _ (done _ _ _ _ _ _ is (λ h. feed_needs (code_of c.args.algorithm) _ _ _ _ c.requires _ h asked) _ _ refl
    c.feed_at.ensures.0)
