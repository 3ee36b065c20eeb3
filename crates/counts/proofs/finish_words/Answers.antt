-- a state that is fit has an allowed share count
use Rattle.std.proofs.Common.{arith, rules}
use Rattle.rules.specs.Counts.{hash_of}
use Rattle.rules.specs.Refusals.{code_of}
use Rattle.rules.proofs.Tested.{fit_ready}
use Rattle.counts.proofs.finish_words.Goals as goal

pub compressions_words-requires : goal.compressions_words-requires
compressions_words-requires c =
    let s = c.args.state.now in
    let p = fit_ready (hash_of 32 (code_of c.args.algorithm)) s.n s.bytes s.drawn s.finished s.hash _ c.is_fit.ensures
    (search rules) in
    (omega arith, p.0)
