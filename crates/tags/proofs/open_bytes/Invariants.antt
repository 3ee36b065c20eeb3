-- up to word w the words are opened and written as bytes
use Prim.Native.Nat.{◌*◌}
use mathlib.Core.Path.{◌≡◌}
use lib.ListN.{length}
use Rattle.rules.specs.Hash.{all_bytes}
use Rattle.rules.specs.Sha1.{open_words}
use Rattle.tags.proofs.Opened.{Opening}
use Rattle.tags.proofs.open_bytes.Given as goal

abbrev pub invariant-loop-w : goal.invariant-loop-w
invariant-loop-w l =
    (length l.tag ≡ l.count * 4)
    × (Opening l.n l.count l.digest l.w l.tag ≡ all_bytes 4 (open_words l.n l.count l.digest))
