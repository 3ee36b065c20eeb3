-- Three functions that call each other, n being the count: shares_to_bool calls halves_to_bool at n, that calls
-- half_to_bool at n, and that calls shares_to_bool at one half. So the measures are 3n, 3n − 1 and 3(n − n/2) + 1.
use Rattle.std.proofs.Common.{◌+◌, ◌-◌, ◌*◌, ◌/◌}
use Rattle.convert.proofs.+half_to_bool_halves_to_bool_shares_to_bool.Given as goal

abbrev pub decreases-half_to_bool : goal.decreases-half_to_bool
decreases-half_to_bool l = 3 * (l.n - l.n / 2) + 1

abbrev pub decreases-halves_to_bool : goal.decreases-halves_to_bool
decreases-halves_to_bool l = 3 * l.n - 1

abbrev pub decreases-shares_to_bool : goal.decreases-shares_to_bool
decreases-shares_to_bool l = 3 * l.n
