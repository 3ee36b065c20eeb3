-- What the inner functions of the conversions take and make.
-- Nobody has to believe these: the exported contracts speak of the rules alone.
use Rattle.std.specs.Prelude.{ℕ, ◌+◌, ◌-◌, ◌*◌, ◌/◌, ◌≤◌, ◌<◌, ◌≡◌, true, List, [], ◌∷◌, ◌++◌, map}
use Rattle.width.specs.Width.{bits}
use Rattle.words.specs.Word.{minus}
use Rattle.rules.specs.Supply.{Draw}
use Rattle.rules.specs.Numbers.{largest}
use Rattle.rules.specs.Convert.{Adder, Refresh, power_of_two, widen, to_bool}
use Rattle.rules.specs.Counts.{add_draws, to_bool_draws}
use Rattle.rules.proofs.Conversion.{half_draws}

-- m shares, one half of n
pub record Half (n m : ℕ) : Type 0 where
  pub some : 0 < m
  pub part : m < n
  pub few : m ≤ n - n / 2
  pub even : power_of_two n ≡ true → m * 2 ≡ n
  pub room : n ≤ largest

-- such a half, converted and brought to n shares; and what that draws
unfoldable pub widened : Adder → ℕ → List ℕ → Draw (List ℕ)
widened adder n half ws at =
    let b = to_bool adder half ws at in
    widen n b.0 ws b.1

abbrev pub widened_draws : ℕ → ℕ → ℕ
widened_draws n m = half_draws (add_draws bits) n m

-- a share count above one, and its halves
pub record Halves (n : ℕ) : Type 0 where
  pub more : 1 < n
  pub room : n ≤ largest
  pub left : Half n (n / 2)
  pub right : Half n (n - n / 2)
  pub draws : to_bool_draws (add_draws bits) n
      ≡ widened_draws n (n / 2) + widened_draws n (n - n / 2) + add_draws bits n

-- x with the arithmetic shares A taken away, refreshed: convert −A1, …, −A(n−1), 0; add to x; refresh
unfoldable pub less : ℕ → Adder → Refresh → List ℕ → List ℕ → Draw (List ℕ)
less k adder fresh A x ws at =
    let b = to_bool adder (map (minus k 0) A ++ (0 ∷ [])) ws at in
    let s = adder x b.0 ws b.1 in
    fresh s.0 ws s.1
