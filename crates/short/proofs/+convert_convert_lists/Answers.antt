use Rattle.std.proofs.Common.{rules}
use Rattle.rules.proofs.Short.{short_of_one}
use Rattle.short.proofs.Parts.{one_place, many, step_made}
use Rattle.short.proofs.+convert_convert_lists.Goals as goal

pub convert-returns-then-n-le1 : goal.convert-returns-then-n-le1
convert-returns-then-n-le1 t c = (search short_of_one, search one_place)

pub convert-convert_lists-requires : goal.convert-convert_lists-requires
convert-convert_lists-requires t c = (search rules, (search many, search rules, search rules))

pub convert_lists-returns : goal.convert_lists-returns
convert_lists-returns t c = (search step_made, search rules)
