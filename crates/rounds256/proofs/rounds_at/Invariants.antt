-- the rounds that are left, from here on, give what all 64 give from the start
use Prim.Native.Nat.{◌+◌, ◌-◌, ◌*◌, ◌%◌}
use mathlib.Core.Path.{◌≡◌}
use Rattle.rules.specs.Shares.{add}
use Rattle.rules.specs.Sha1.{rounds}
use Rattle.rules.specs.Sha256.{round}
use Rattle.rules.specs.Counts.{and_draws}
use Rattle.masked_words.specs.Words.{turned}
use Rattle.rounds256.proofs.rounds_at.Given as goal

abbrev pub invariant-loop-t : goal.invariant-loop-t
invariant-loop-t l =
    (l.p + (64 - l.t) * (226 * and_draws l.n) ≡ l.at + 64 * (226 * and_draws l.n))
    × (rounds (round 32 (add 32) l.n) l.n l.u (64 - l.t) l.t (turned l.n ((64 - l.t) % 8) l.s) l.words l.p
    ≡ rounds (round 32 (add 32) l.n) l.n l.u 64 0 l.initial.s l.words l.at)
