-- std's difference is the number that b adds up to a
use Rattle.std.proofs.Common.{sym, arith}
use Rattle.width.specs.Width.{bits}
use Rattle.words.proofs.Words.{minus_of}
use Rattle.width.proofs.minus.Goals as goal

pub returns : goal.returns
returns c =
    let i = c.args in
    let d = c.wrapping_sub_u32 in
    sym (minus_of bits d.result i.a i.b (omega arith) (omega arith) d.ensures.value)
