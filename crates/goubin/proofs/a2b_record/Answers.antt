-- refused, the record is as it came; else it holds the steps
use Prim.Native.Nat.{◌+◌, ◌*◌}
use native.Mathlib.Omega.{arith}
use Rattle.width.specs.Width.{bits}
use Rattle.rules.proofs.Calls.{not_recorded, recorded}
use Rattle.goubin.proofs.a2b_record.Goals as goal

pub returns-then-entries-ne-A2B_RECORD : goal.returns-then-entries-ne-A2B_RECORD
returns-then-entries-ne-A2B_RECORD c = not_recorded (5 * bits + 5) _ c.args.entries.now (λ e. omega arith)

pub returns : goal.returns
returns c = search recorded
