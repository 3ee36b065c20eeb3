-- up to word w the last shares stand
use Prim.Native.Nat.{◌+◌, ◌-◌, ◌*◌}
use mathlib.Core.Path.{◌≡◌}
use lib.ListN.{length, take}
use Rattle.rules.specs.Hmac.{key_words}
use Rattle.rules.specs.Standard.{SHA1}
use Rattle.key_words.specs.Held.{last_shares}
use Rattle.key_words.proofs.last_shares.Given as goal

abbrev pub invariant-loop-w : goal.invariant-loop-w
invariant-loop-w l =
    let m = length l.initial.z in
    (l.p ≡ l.at + l.w * (l.n - 1))
    × (take l.w l.z ≡ take l.w (last_shares l.n (key_words (SHA1 32) m l.key) l.words l.at))
