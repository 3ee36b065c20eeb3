-- How far a word of 32 bits is rotated or shifted: by some places, and not by all.
use Rattle.std.specs.Prelude.{ℕ, ◌<◌}

abbrev pub Places : ℕ → ℕ → ℕ → Type 0
Places p q r = (0 < p) × (p < 32) × (0 < q) × (q < 32) × (0 < r) × (r < 32)
