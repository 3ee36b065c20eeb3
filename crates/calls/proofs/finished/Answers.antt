-- refused by its query or its tests, with the state and the tag's bytes as they came; or the rule
use Rattle.std.proofs.Common.{refl, sym, ap, rules, ◌∙◌, [], ◌∷◌}
use borrow.Author.Tests.{eqb-true, leb-true}
use Rattle.rules.specs.declared.Answer.{Answer}
use Rattle.rules.specs.declared.State.{State}
use Rattle.rules.specs.Refusals.{code_of}
use Rattle.rules.specs.Stream.{streamed}
use Rattle.rules.proofs.Calls.{answer, holds, one_more, refused_asked, refused_early, refused, done}
use Rattle.rules.proofs.StreamCalls.{finish_ready, finish_needs, finished_refused, finished}
use Rattle.calls.proofs.finished.Goals as goal

pub returns-in_err-need : goal.returns-in_err-need
returns-in_err-need c =
    finished_refused _ c.args.state.now _ _ _ _ c.from_residual.ensures.1
    (refused_asked (_ ∷ []) (_ ∷ []) _ _ _ _ _ _ c.in_err-need.ensures c.from_residual.ensures.1)

pub returns-in_err-require : goal.returns-in_err-require
returns-in_err-require c =
    let fit = ap (λ (a : Answer). a.number) c.in_ok-need.ensures in
    let two = one_more (_ ∷ []) _ 0 _ fit (sym (rw c.tag_size.ensures at c.in_err-require.ensures)) in
    let passes = c.from_residual-in_err-require.ensures.1 in
    finished_refused _ c.args.state.now _ _ _ _ passes (refused_early (_ ∷ _ ∷ []) [] _ _ _ _ _ two passes)

pub returns-in_err-require-2 : goal.returns-in_err-require-2
returns-in_err-require-2 c =
    let asked = c.in_ok-need.ensures in
    let fit = ap (λ (a : Answer). a.number) asked in
    let two = one_more (_ ∷ []) _ 0 0 fit (sym (rw c.tag_size.ensures at c.in_ok-require.ensures)) in
    let is = one_more (_ ∷ _ ∷ []) _ 0 _ two (sym c.in_err-require-2.ensures) in
    let passes = c.from_residual-in_err-require-2.ensures.1 in
    finished_refused _ c.args.state.now _ _ _ _ passes
    (refused _ _ _ _ _ _ is (λ h. finish_needs (code_of c.args.algorithm) _ _ _ _ c.requires _ h asked) _ _ refl passes)

pub finish_at-drawn-requires : goal.finish_at-drawn-requires
finish_at-drawn-requires c =
    let p = finish_ready (code_of c.args.algorithm) _ _ _ _ _ _ _ c.in_ok-need.ensures
    (leb-true _ _ (holds _ _ c.in_ok-require-2.ensures)) in
    (p.0, p.1, p.2, eqb-true _ _ (search (holds, rules)), p.3)

pub returns : goal.returns
returns c =
    let asked = c.in_ok-need.ensures in
    let fit = ap (λ (a : Answer). a.number) asked in
    let two = one_more (_ ∷ []) _ 0 0 fit (sym (rw c.tag_size.ensures at c.in_ok-require.ensures)) in
    let is = one_more (_ ∷ _ ∷ []) _ 0 0 two (sym c.in_ok-require-2.ensures) in
    finished _ c.args.state.now _ _
    (done _ _ _ _ _ _ is (λ h. finish_needs (code_of c.args.algorithm) _ _ _ _ c.requires _ h asked) _ _ refl
    c.finish_at-drawn.ensures.0)
    ∙ ap (λ (s : State). (streamed (answer 0 c.finish_at-drawn.result) s, c.finish_at-drawn.new.tag))
    (sym c.close.ensures)
