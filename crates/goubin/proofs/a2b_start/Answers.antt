-- each step is the rule's, once what is held is the value itself
use Rattle.words.specs.Word.{shift}
use Rattle.rules.specs.Goubin.{a2b_start}
use Rattle.goubin.proofs.a2b_start.Goals as goal

pub returns : goal.returns
unfolding a2b_start shift
returns c =
    rw (
      c.held_by_word-o3.ensures,
      c.held_by_word-o2.ensures,
      c.held_by_word-x2.ensures,
      c.held_by_word-x1.ensures,
    )
