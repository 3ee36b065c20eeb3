-- the table has W of each count
use Prim.Native.Nat.{ℕ}
use mathlib.Core.Path.{refl}
use mathlib.Core.List.{List, [], ◌∷◌}
use borrow.Author.Rules.{rules}
use Rattle.rules.specs.Convert.{power_to}
use Rattle.rules.specs.Counts.{and_draws, to_bool_draws_in, to_bool_draws}
use Rattle.counts.proofs.Queries.{table_right}
use Rattle.counts.proofs.to_bool.Goals as goal

table : List ℕ
table =
    0 ∷ 0 ∷ 34 ∷ 134 ∷ 264 ∷ 496 ∷ 758 ∷ 1082 ∷ 1432 ∷ 1928 ∷ 2450 ∷ 3034 ∷ 3650 ∷ 4360 ∷ 5102 ∷ 5902 ∷ 6720 ∷ []

pub returns : goal.returns
unfolding table power_to and_draws to_bool_draws_in to_bool_draws
returns c = table_right table refl c.args.n (search rules)
