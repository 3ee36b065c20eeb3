-- each step is the rule's, once what is held is the value itself
use Rattle.rules.specs.Goubin.{b2a_record}
use Rattle.goubin.proofs.b2a_steps.Goals as goal

pub returns : goal.returns
unfolding b2a_record
returns c =
    rw (
      c.minus-a2.ensures,
      c.held_by_word-g1.ensures,
      c.held_by_word-t3.ensures,
      c.minus-t2.ensures,
    )
