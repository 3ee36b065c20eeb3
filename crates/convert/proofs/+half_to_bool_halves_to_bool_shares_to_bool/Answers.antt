use Rattle.std.proofs.Common.{rules}
use Rattle.convert.proofs.Parts.{halved_count, widened_place, widened_made}
use Rattle.convert.proofs.Parts.{one_made, one_place, to_bool_made}
use Rattle.convert.proofs.+half_to_bool_halves_to_bool_shares_to_bool.Goals as goal

pub half_to_bool-returns : goal.half_to_bool-returns
half_to_bool-returns t c = (search widened_made, search widened_place)

pub halves_to_bool-returns : goal.halves_to_bool-returns
halves_to_bool-returns t c = (search to_bool_made, search rules)

pub shares_to_bool-returns-then-n-le1 : goal.shares_to_bool-returns-then-n-le1
shares_to_bool-returns-then-n-le1 t c = (search one_made, search one_place)

pub shares_to_bool-halves_to_bool-requires : goal.shares_to_bool-halves_to_bool-requires
shares_to_bool-halves_to_bool-requires t c =
    (search rules, (search halved_count, search rules, search rules, search rules))
