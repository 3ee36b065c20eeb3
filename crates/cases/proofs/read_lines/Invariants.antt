-- each line takes one off what may still come, so there are at most as many lines as bytes and one more, and at most as
-- many cases as lines
use Rattle.std.proofs.Common.{◌+◌, ◌≤◌, length, if◌then◌else◌}
use Rattle.std.specs.Slice.Iter.{split_rest, split_done}
use Rattle.cases.proofs.read_lines.Given as goal

abbrev pub invariant-loop-content : goal.invariant-loop-content
invariant-loop-content l = record {
  can_next : (goal.iterator-loop-content).can_next l.content-iterator;
  is_finite : (goal.iterator-loop-content).is_finite l.content-iterator;
  lines : l.line + (if split_done l.content-iterator then 0 else length (split_rest l.content-iterator) + 1)
      ≤ length l.text + 1;
  cases : l.tally.cases ≤ l.line;
  right : l.tally.right ≤ l.tally.cases;
}
