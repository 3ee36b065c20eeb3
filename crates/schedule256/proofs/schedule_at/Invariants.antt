-- the words that are left, from here on, give what all 48 give from the start
use Prim.Native.Nat.{◌+◌, ◌-◌, ◌*◌, ◌≤◌}
use mathlib.Core.Path.{◌≡◌}
use lib.ListN.{length}
use Rattle.rules.specs.Shares.{add}
use Rattle.rules.specs.Sha256.{schedule}
use Rattle.rules.specs.Counts.{and_draws}
use Rattle.masked_words.specs.Words.{firsts}
use Rattle.schedule256.proofs.schedule_at.Given as goal

abbrev pub invariant-loop-t : goal.invariant-loop-t
invariant-loop-t l =
    (l.t ≤ 64) × (length l.u ≡ 64 * l.n)
    × (l.p + (64 - l.t) * (96 * and_draws l.n) ≡ l.at + 48 * (96 * and_draws l.n))
    × (schedule 32 (add 32) l.n (64 - l.t) (firsts l.n l.t l.u) l.words l.p
    ≡ schedule 32 (add 32) l.n 48 (firsts l.n 16 l.initial.u) l.words l.at)
