-- from the last share to the first
use Rattle.std.proofs.Common.{◌≡◌, ℕ, List, [], ◌∷◌, reverse, fold, bit_xor, refl, ap, rules}
use Rattle.std.proofs.lemmas.List.{reverse-append}
use Rattle.std.proofs.lemmas.List.Sums.{fold_push}
use Rattle.rules.specs.Supply.{opened}
use Rattle.shares.proofs.open_xor.Goals as goal

opened_back : (x : List ℕ) → fold (λ (r s : ℕ). bit_xor s r) 0 (reverse x) ≡ opened x
unfolding opened
opened_back [] = refl
opened_back (a ∷ x) = rw (reverse-append (a ∷ []) x, fold_push) (ap (bit_xor a) (opened_back x))

pub returns : goal.returns
returns c = rw (← opened_back c.args.x.now) (search rules)
