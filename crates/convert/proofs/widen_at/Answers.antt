-- expanded; or put in front of zeros, and refreshed
use Rattle.convert.proofs.Parts.{expand_place, refresh_place, widen_expanded, widen_filled}
use Rattle.convert.proofs.widen_at.Goals as goal

pub returns-then-is_power_of_two : goal.returns-then-is_power_of_two
returns-then-is_power_of_two c = (search widen_expanded, search expand_place)

pub returns : goal.returns
returns c = (search widen_filled, search refresh_place)
