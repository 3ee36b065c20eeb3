-- Section 2, drawing: it takes the word at the place and moves one on.
use Rattle.std.specs.Prelude.{ℕ, ◌+◌, ◌≡◌, List, get_or}
use Rattle.supply.specs.declared.Drawn.{Drawn}

abbrev pub Takes : List ℕ → ℕ → Drawn → Type 0
Takes ws at r = (r.word ≡ get_or ws at 0) × (r.at ≡ at + 1)
