-- from the last share to the first
use Rattle.std.proofs.Common.{◌≡◌, ℕ, ◌+◌, ◌%◌, ◌^◌, List, [], ◌∷◌, reverse, fold, refl, rules}
use Rattle.std.proofs.lemmas.List.{reverse-append}
use Rattle.std.proofs.lemmas.List.Sums.{fold_push}
use Rattle.std.proofs.iter.runs.Made.{chains}
use native.Mathlib.Nat.{add-mod-mod}
use Rattle.width.specs.Width.{bits}
use Rattle.rules.specs.Supply.{total}
use Rattle.shares.proofs.open_sum.Goals as goal

total_back : (x : List ℕ) → fold (λ (r s : ℕ). (s + r) % 2 ^ bits) 0 (reverse x) ≡ total x % 2 ^ bits
unfolding total
total_back [] = refl
total_back (a ∷ x) =
    rw (reverse-append (a ∷ []) x, fold_push, total_back x) (add-mod-mod a (total x) (2 ^ bits))

pub returns : goal.returns
returns c = rw (← total_back c.args.a.now) (search (rules, chains))
