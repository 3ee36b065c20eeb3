-- Two functions that call each other, n being the count: convert calls convert_lists at n, and that calls convert at
-- n − 1. So the measures are 2n + 1 and 2n.
use Rattle.std.proofs.Common.{◌+◌, ◌*◌}
use Rattle.short.proofs.+convert_convert_lists.Given as goal

abbrev pub decreases-convert : goal.decreases-convert
decreases-convert l = 2 * l.n + 1

abbrev pub decreases-convert_lists : goal.decreases-convert_lists
decreases-convert_lists l = 2 * l.n
