-- up to word i the chain's sums stand, behind them its old words; what is left gives the rest
use Prim.Native.Nat.{◌+◌, ◌-◌, ◌*◌}
use mathlib.Core.Path.{◌≡◌}
use mathlib.Core.List.{[]}
use lib.ListN.{length, drop}
use Rattle.rules.specs.Shares.{add}
use Rattle.rules.specs.Sha1.{sums}
use Rattle.rules.specs.Counts.{and_draws}
use Rattle.masked_words.specs.Words.{firsts}
use Rattle.sums.proofs.sums_at.Given as goal

abbrev pub invariant-loop-i : goal.invariant-loop-i
invariant-loop-i l =
    (length l.z ≡ l.count * l.n)
    × (l.p + (l.count - l.i) * (32 * and_draws l.n) ≡ l.at + l.count * (32 * and_draws l.n))
    × (drop (l.i * l.n) l.z ≡ drop (l.i * l.n) l.initial.z)
    × (sums (add 32) l.n l.initial.z l.s (l.count - l.i) l.i (firsts l.n l.i l.z) l.words l.p
    ≡ sums (add 32) l.n l.initial.z l.s l.count 0 [] l.words l.at)
