use borrow.Author.Rules.{rules}
use mathlib.Core.Path.{refl}
use native.Mathlib.Nat.{sub-zero}
use Rattle.masked_words.proofs.Parts.{firsts_none}
use Rattle.sums.proofs.Parts.{rest_next, sums_next, sums_end, sum_after, sums_after}
use Rattle.sums.proofs.sums_at.Goals as goal

pub loop-i-init : goal.loop-i-init
loop-i-init c = (search rules, rw sub-zero, refl, rw (sub-zero, firsts_none))

pub loop-i-preserved : goal.loop-i-preserved
loop-i-preserved c = (search rules, search sum_after, search rest_next, search sums_next)

pub returns : goal.returns
returns c = (search sums_end, search sums_after)
