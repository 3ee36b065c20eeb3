-- a state under another mark is refused; else the call by the hash of the code, with the mark put back
use Rattle.std.proofs.Common.{sym, ap, ◌∙◌}
use Rattle.rules.specs.declared.Streamed.{Streamed}
use Rattle.rules.proofs.Codes.{finish_by, finish_unfit}
use Rattle.calls.proofs.finish.Goals as goal

pub returns-then-state-code : goal.returns-then-state-code
returns-then-state-code c =
    finish_unfit 32 c.args.code c.args.state _ _ c.if-state-code.true
    ∙ ap (λ (o : Streamed). (o, c.args.tag.now)) (sym c.streamed.ensures)

pub returns : goal.returns
returns c =
    finish_by 32 c.args.code c.from-algorithm.result c.args.state _ _ _ c.finished-outcome.result
    c.finished-outcome.new.state c.if-state-code.false c.from-algorithm.ensures
    (rw c.into.ensures at c.finished-outcome.ensures)
    ∙ ap (λ (o : Streamed). (o, c.finished-outcome.new.tag)) (sym c.streamed-2.ensures)
