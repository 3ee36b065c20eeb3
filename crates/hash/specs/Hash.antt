-- The hashes that HMAC is over, with words of 32 bits. Nothing above this crate says which there are.
use Rattle.rules.specs.declared.Algorithm.{Algorithm}
use Rattle.rules.specs.Refusals.{code_of}
use Rattle.rules.specs.Hash.{Hash}
use Rattle.rules.specs.Hmac.{Masked}
use Rattle.rules.specs.Counts.{standard_of, hash_of}

abbrev pub hash : Algorithm → Masked
hash algorithm = hash_of 32 (code_of algorithm)

abbrev pub standard : Algorithm → Hash
standard algorithm = standard_of 32 (code_of algorithm)
