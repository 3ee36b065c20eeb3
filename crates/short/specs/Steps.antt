-- What the inner functions of the short conversion take and make.
-- Nobody has to believe these: the exported contract speaks of the rules alone.
use Rattle.std.specs.Prelude.{ℕ, ◌+◌, ◌-◌, ◌*◌, ◌≤◌, ◌<◌, ◌≡◌, List, [], ◌∷◌, ◌++◌, drop}
use Rattle.rules.specs.Supply.{Draw}
use Rattle.rules.specs.Shares.{refresh_last}
use Rattle.rules.specs.Short.{psis, joined}
use Rattle.rules.specs.Counts.{short_draws}

-- a share count above one, and what it draws
pub record Many (n : ℕ) : Type 0 where
  pub more : 1 < n
  pub room : n ≤ 8
  pub draws : short_draws n ≡ 3 * n - 2 + 2 * short_draws (n - 1)

-- a list refreshed and joined
unfoldable pub ready : List ℕ → Draw (List ℕ)
ready l ws at =
    let r = refresh_last l ws at in
    (joined r.0, r.1)

-- of the n + 1 shares of a step: the later ones and b
unfoldable pub lists : ℕ → List ℕ → Draw (List ℕ × List ℕ)
lists k a ws at =
    let c = ready (drop 1 a) ws at in
    let b = ready (psis k a) ws c.1 in
    ((c.0, b.0), b.1)

-- of its shares
unfoldable pub two_lists : ℕ → List ℕ → Draw (List ℕ × List ℕ)
two_lists k x ws at =
    let a = refresh_last (x ++ (0 ∷ [])) ws at in
    lists k a.0 ws a.1
