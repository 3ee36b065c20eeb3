-- a word as four bytes, the highest first
use Rattle.std.proofs.Common.{rules}
use Rattle.std.proofs.lemmas.Slice.{take-put_mid}
use Rattle.rules.specs.Hash.{bytes_of}
use Rattle.tags.proofs.put_bytes.Goals as goal

pub returns : goal.returns
unfolding bytes_of
returns c = search (rules, take-put_mid)
