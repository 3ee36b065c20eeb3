-- refused, the record is as it came; else the steps fill it whole
use native.Mathlib.Omega.{arith}
use Rattle.rules.proofs.Calls.{not_recorded}
use Rattle.goubin.proofs.Records.{b2a_stored}
use Rattle.goubin.proofs.b2a_record.Goals as goal

pub returns-then-entries-ne-B2A_RECORD : goal.returns-then-entries-ne-B2A_RECORD
returns-then-entries-ne-B2A_RECORD c = not_recorded 7 _ c.args.entries.now (λ e. omega arith)

pub returns : goal.returns
returns c = search b2a_stored
