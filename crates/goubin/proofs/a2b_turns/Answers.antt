use Prim.Native.Nat.{◌+◌, ◌*◌}
use mathlib.Core.Path.{◌≡◌}
use native.Mathlib.Omega.{arith}
use borrow.Author.Rules.{rules}
use lib.ListN.{length}
use Rattle.width.specs.Width.{bits}
use Rattle.goubin.proofs.Records.{turn_stored, last_stored}
use Rattle.goubin.proofs.a2b_turns.Goals as goal

pub loop-i-preserved : goal.loop-i-preserved
loop-i-preserved c =
    let room : length c.loop-i.entries ≡ 5 * bits + 5 = omega arith in
    search turn_stored

pub returns : goal.returns
returns c = search (rules, last_stored bits)
