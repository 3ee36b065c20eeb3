-- texts of two lengths are not the same
use native.Mathlib.Omega.{arith}
use Rattle.compare.proofs.Found.{sizes_differ}
use Rattle.compare.proofs.same_tag.Goals as goal

pub returns-then-a-b : goal.returns-then-a-b
returns-then-a-b c = sizes_differ _ _ (λ e. omega arith)
