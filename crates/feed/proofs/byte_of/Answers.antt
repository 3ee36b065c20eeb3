-- one of the bytes that wait, or one of the piece
use Rattle.feed.proofs.Steps.{waiting_byte, piece_byte}
use Rattle.feed.proofs.byte_of.Goals as goal

pub returns-then-i-m : goal.returns-then-i-m
returns-then-i-m c = search waiting_byte

pub returns : goal.returns
returns c = search piece_byte
