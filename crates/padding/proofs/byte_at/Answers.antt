-- a byte of the text, the one bit, a zero, or a byte of the count of bits
use Rattle.padding.proofs.Padded.{text_case, one_case, zero_case, count_case}
use Rattle.padding.proofs.byte_at.Goals as goal

pub returns-then-i-l : goal.returns-then-i-l
returns-then-i-l c = search text_case

pub returns-then-i-l-2 : goal.returns-then-i-l-2
returns-then-i-l-2 c = search one_case

pub returns-then-i-end : goal.returns-then-i-end
returns-then-i-end c = search zero_case

pub returns : goal.returns
returns c = search count_case
