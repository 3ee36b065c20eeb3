-- a state under another mark is refused; else the call by the hash of the code, with the mark put back
use Rattle.std.proofs.Common.{sym, ◌∙◌, Ok, Err}
use Rattle.rules.proofs.Codes.{feed_by, feed_unfit}
use Rattle.calls.proofs.feed.Goals as goal

pub returns-then-state-code : goal.returns-then-state-code
returns-then-state-code c =
    feed_unfit 32 c.args.code c.args.state _ _ c.if-state-code.true ∙ sym c.streamed.ensures

pub returns-in_default : goal.returns-in_default
returns-in_default c =
    feed_by 32 c.args.code c.from-algorithm.result c.args.state _ _ (Err c.in_default.field-0) c.fed-outcome.new.state
    c.if-state-code.false c.from-algorithm.ensures
    (rw (c.into.ensures, c.in_default.is) at c.fed-outcome.ensures.outcome)
    ∙ sym (rw c.in_default.is at c.streamed-in_default.ensures)

pub returns : goal.returns
returns c =
    feed_by 32 c.args.code c.from-algorithm.result c.args.state _ _ (Ok c.in-Ok.drawn) c.fed-outcome.new.state
    c.if-state-code.false c.from-algorithm.ensures
    (rw (c.into.ensures, c.in-Ok.is) at c.fed-outcome.ensures.outcome)
    ∙ sym c.streamed-2.ensures
