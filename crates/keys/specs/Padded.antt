-- A key of so many bytes in shares, with its padding: zero shares up to its last block, and the padding in share 1.
use Rattle.std.specs.Prelude.{ℕ, ◌*◌, length, replicate}
use Rattle.rules.specs.Supply.{Count, Sharing}
use Rattle.rules.specs.Hash.{ending, filled}
use Rattle.rules.specs.Hmac.{marked}
use Rattle.rules.specs.Standard.{SHA1}

abbrev pub padded : Count → ℕ → Sharing → Sharing
padded n bytes s =
    let pad = ending (SHA1 32) 0 (replicate bytes 0) in
    marked n pad (filled (length pad * n) s)
