-- How long a text may be, and how many blocks it makes with its padding.
use Rattle.std.specs.Prelude.{ℕ, ◌+◌, ◌/◌, ◌^◌, ◌<◌}

-- no count of bits or of bytes goes past 64 bits
abbrev pub Hashable : ℕ → Type 0
Hashable l = l < 2 ^ 60

abbrev pub blocks_in : ℕ → ℕ
blocks_in l = (l + 8) / 64 + 1
