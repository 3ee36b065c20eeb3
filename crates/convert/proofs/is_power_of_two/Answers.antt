-- one bit, at each count
use Rattle.rules.proofs.Allowed.{one_bit}
use Rattle.convert.proofs.is_power_of_two.Goals as goal

pub returns : goal.returns
returns c = search one_bit
