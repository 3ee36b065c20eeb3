-- Words in shares, of which the last share alone takes room: the others stand in the supply, where they were drawn.
use Rattle.std.specs.Prelude.{◌+◌, ◌-◌, List, [], ◌∷◌, ◌++◌}
use Rattle.std.specs.Int.Bits.{bit_xor}
use Rattle.words.specs.Word.{Word}
use Rattle.rules.specs.Supply.{Count, Place, Supply, Sharing, next, opened}

-- the last shares of words that are split one after the other, from place `at` on
unfoldable pub last_shares : Count → List Word → Supply → Place → List Word
last_shares n [] ws at = []
last_shares n (v ∷ vs) ws at = bit_xor v (opened (next (n - 1) ws at).0) ∷ last_shares n vs ws (at + (n - 1))

-- the words in shares again, each with its own words of the supply
unfoldable pub held : Count → List Word → Supply → Place → Sharing
held n [] ws at = []
held n (last ∷ lasts) ws at = ((next (n - 1) ws at).0 ++ (last ∷ [])) ++ held n lasts ws (at + (n - 1))
