-- what the rule draws at each share count
use Rattle.std.proofs.Common.{rules}
use Rattle.rules.specs.Numbers.{power, first, test}
use Rattle.rules.specs.Counts.{short_draws}
use Rattle.counts.proofs.short_words.Goals as goal

pub returns-in-1 : goal.returns-in-1
unfolding power first test short_draws
returns-in-1 c = search rules

pub returns-in-2 : goal.returns-in-2
unfolding power first test short_draws
returns-in-2 c = search rules

pub returns-in-4 : goal.returns-in-4
unfolding power first test short_draws
returns-in-4 c = search rules

pub returns-in-8 : goal.returns-in-8
unfolding power first test short_draws
returns-in-8 c = search rules

pub returns-in_default : goal.returns-in_default
unfolding power first test short_draws
returns-in_default c = search rules
