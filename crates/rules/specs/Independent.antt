-- Demand 3: what it is that one probe on one step says nothing.
use Rattle.std.specs.Prelude.{◌≡◌, refl, ◌^◌, ◌<◌}
use Rattle.std.specs.Int.Bits.{bit_xor}
use Rattle.words.specs.Word.{Width, Word}
use Rattle.words.specs.Count.{Probe, sum, hit, pairs}

-- A step, of the secret x and of the pair (r, G), shows each value v equally often whatever the secret is.
abbrev pub Independent : Width → Probe → Type 0
Independent k step = (x y v : Word) → x < 2 ^ k → y < 2 ^ k → pairs k (step x) v ≡ pairs k (step y) v

-- (The count counts: of the 16 pairs of words of two bits, four have r ⊕ G equal to 3. That the statement can fail is
-- shown in proofs/Demand3.)
four_of_sixteen : pairs 2 (λ r G. bit_xor r G) 3 ≡ 4
unfolding pairs sum hit
four_of_sixteen = refl
