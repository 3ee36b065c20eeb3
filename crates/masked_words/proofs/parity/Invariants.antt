-- up to share i the shares are those of both XORs
use mathlib.Core.Path.{◌≡◌}
use lib.Bits.{bit_xor}
use lib.ListN.{take}
use Rattle.rules.specs.Shares.{each}
use Rattle.masked_words.proofs.parity.Given as goal

abbrev pub invariant-loop-i : goal.invariant-loop-i
invariant-loop-i l = take l.i l.f ≡ take l.i (each bit_xor (each bit_xor l.b l.c) l.d)
