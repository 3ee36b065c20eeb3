-- What the inner functions of HMAC make: its first two steps, and its last two.
-- Nobody has to believe these: the exported contracts speak of the rules alone.
use Rattle.rules.specs.Supply.{Draw, Count, Sharing}
use Rattle.rules.specs.Hash.{Bytes, block_bytes}
use Rattle.rules.specs.Hmac.{Masked, key_step, text_step, digest_step}

-- the inner key block, then the message
unfoldable pub inner_hash : Masked → Count → Sharing → Bytes → Draw Sharing
inner_hash M n key text ws at =
    let i = key_step M n 0x36 key ws at in
    text_step M n (block_bytes M.standard) text i.0 ws i.1

-- the outer key block, then the digest block
unfoldable pub outer_hash : Masked → Count → Sharing → Sharing → Draw Sharing
outer_hash M n key inner ws at =
    let o = key_step M n 0x5c key ws at in
    digest_step M n inner o.0 ws o.1
