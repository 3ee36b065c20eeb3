use borrow.Author.Rules.{rules}
use Rattle.tags.proofs.Opened.{tag_next, tag_end}
use Rattle.tags.proofs.open_bytes.Goals as goal

pub loop-w-preserved : goal.loop-w-preserved
loop-w-preserved c = (search rules, search tag_next)

pub returns : goal.returns
returns c = search tag_end
