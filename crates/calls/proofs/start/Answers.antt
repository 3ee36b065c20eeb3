-- in the place of zeros, by the hash of the code, with the code's mark; refused, the zeros are left
use Rattle.std.proofs.Common.{sym, ap, ◌∙◌, Ok, Err}
use Rattle.rules.specs.declared.State.{State}
use Rattle.rules.specs.Refusals.{answer_of}
use Rattle.rules.specs.Stream.{streamed}
use Rattle.rules.proofs.Codes.{start_by, call_keeps}
use Rattle.calls.proofs.start.Goals as goal

pub returns-in-Ok : goal.returns-in-Ok
returns-in-Ok c =
    start_by 32 c.args.code _ c.from.result _ _ c.zeros-state.result (Ok c.in-Ok.drawn) c.started.new.state
    c.from.ensures (rw c.in-Ok.is at c.started.ensures)
    ∙ sym c.streamed.ensures

pub returns-in-Err : goal.returns-in-Err
returns-in-Err c =
    let made = rw c.in-Err.is at c.started.ensures in
    start_by 32 c.args.code _ c.from.result _ _ c.zeros-state.result (Err c.in-Err.refusal) c.started.new.state
    c.from.ensures made
    ∙ ap (λ (s : State). streamed (answer_of (Err c.in-Err.refusal)) s)
    (sym (call_keeps _ _ c.zeros-state.result _ c.in-Err.refusal c.started.new.state made ∙ c.zeros-state.ensures))
    ∙ sym c.streamed-in-Err.ensures
