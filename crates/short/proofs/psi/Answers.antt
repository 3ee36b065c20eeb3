-- one XOR and one difference
use borrow.Author.Rules.{rules}
use Rattle.rules.specs.Goubin.{psi}
use Rattle.short.proofs.psi.Goals as goal

pub returns : goal.returns
unfolding psi
returns c = search rules
