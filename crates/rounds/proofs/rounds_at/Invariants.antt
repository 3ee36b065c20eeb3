-- the rounds that are left, from here on, give what all 80 give from the start, and the window holds their words
use Prim.Native.Nat.{◌+◌, ◌-◌, ◌*◌, ◌/◌, ◌%◌}
use mathlib.Core.Path.{◌≡◌}
use Rattle.rules.specs.Shares.{add}
use Rattle.rules.specs.Sha1.{round, rounds, schedule}
use Rattle.rules.specs.Counts.{and_draws, rounds_ands}
use Rattle.masked_words.specs.Words.{turned}
use Rattle.schedule.specs.Window.{Window}
use Rattle.rounds.proofs.rounds_at.Given as goal

abbrev pub invariant-loop-t : goal.invariant-loop-t
invariant-loop-t l =
    (l.p + rounds_ands 32 (80 - l.t) l.t * and_draws l.n ≡ l.at + rounds_ands 32 80 0 * and_draws l.n)
    × Window l.n (schedule 32 l.n 64 l.initial.u) l.t (turned l.n (l.t % 16) l.u)
    × (rounds (λ t. round 32 (add 32) l.n (t / 20)) l.n (schedule 32 l.n 64 l.initial.u) (80 - l.t) l.t
    (turned l.n ((80 - l.t) % 5) l.s) l.words l.p
    ≡ rounds (λ t. round 32 (add 32) l.n (t / 20)) l.n (schedule 32 l.n 64 l.initial.u) 80 0 l.initial.s l.words l.at)
