-- The ANDs of a compression, by the hash's code.
use Rattle.std.specs.Prelude.{ℕ, zero, suc}
use Rattle.rules.specs.Counts.{compress_ands, compress256_ands}

abbrev pub ands_of : ℕ → ℕ
ands_of zero = compress_ands 32
ands_of (suc code) = compress256_ands 32
