-- The compression of masked SHA-256, from the parts that the code works out one after the other.
use Prim.Native.Nat.{ℕ, ◌*◌}
use mathlib.Core.Path.{◌≡◌, ◌∙◌}
use mathlib.Core.List.{List, [], ◌++◌}
use native.Mathlib.Nat.{zero-add}
use native.Mathlib.Omega.{arith}
use lib.ListN.{length, drop}
use lib.Seq.{sets, sets-eq, take_at}
use Rattle.rules.specs.Convert.{Adder}
use Rattle.rules.specs.Sha1.{rounds, sums}
use Rattle.rules.specs.Sha256.{round, schedule, compress}
use Rattle.rules.proofs.Loops.{Run}
use Rattle.masked_words.specs.Words.{firsts}

-- ---- scheduled: the block in front
pub scheduled_made : (k : ℕ) (add : Adder) (n : ℕ) (block u u' ws : List ℕ) (at : ℕ) (o : Run)
    → length block ≡ 16 * n → length u ≡ 64 * n → u' ≡ sets u 0 block
    → schedule k add n 48 (firsts n 16 u') ws at ≡ o → schedule k add n 48 block ws at ≡ o
unfolding firsts
scheduled_made k add n block u u' ws at o size room e f =
    let rest = drop (length block) u in
    let is : u' ≡ block ++ rest = e ∙ sets-eq block u 0 (omega arith) ∙ rw (zero-add (length block)) in
    rw (is, take_at block rest (16 * n) size) at f

-- ---- compress_at: the schedule, the rounds over a copy of the chain, and the sums
pub compress_made : (k : ℕ) (add : Adder) (n : ℕ) (block ws h g u s : List ℕ) (at p q : ℕ) (o : Run) → g ≡ h
    → schedule k add n 48 block ws at ≡ (u, p) → rounds (round k add n) n u 64 0 g ws p ≡ (s, q)
    → sums add n h s 8 0 [] ws q ≡ o → compress k add n h block ws at ≡ o
unfolding compress
compress_made k add n block ws h g u s at p q o e i f j = rw (i, ← e, f) (rw (← e) at j)
