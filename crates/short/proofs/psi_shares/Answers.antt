-- the entries, with share 1 in the first where there is an even number of them
use Rattle.short.proofs.Parts.{psis_even, psis_odd}
use Rattle.short.proofs.psi_shares.Goals as goal

pub returns-then-n-eq0 : goal.returns-then-n-eq0
returns-then-n-eq0 c = search psis_even

pub returns-else-n-eq0 : goal.returns-else-n-eq0
returns-else-n-eq0 c = search psis_odd
