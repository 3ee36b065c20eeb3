-- up to share i the shares are those of the XOR, rotated
use mathlib.Core.Path.{◌≡◌}
use lib.Bits.{bit_xor}
use lib.ListN.{take}
use Rattle.rules.specs.Shares.{each}
use Rattle.rules.specs.Sha1.{rotated}
use Rattle.schedule.proofs.mixed.Given as goal

abbrev pub invariant-loop-i : goal.invariant-loop-i
invariant-loop-i l =
    take l.i l.z ≡ take l.i (rotated 32 1 (each bit_xor (each bit_xor (each bit_xor l.a l.b) l.c) l.d))
