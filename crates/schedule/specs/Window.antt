-- The window that keeps sixteen words of the schedule.
use Rattle.std.specs.Prelude.{ℕ, ◌+◌, ◌<◌, ◌≡◌, ◌++◌, leb, take, drop}
use Rattle.words.specs.Word.{Width}
use Rattle.rules.specs.Supply.{Count, Sharing}
use Rattle.rules.specs.Numbers.{choose}
use Rattle.rules.specs.Sha1.{word, following}

-- what the window holds at round t: words t to t + 15 of the schedule, as far as it has them
unfoldable pub Window : Count → Sharing → ℕ → Sharing → Type 0
Window n schedule t window = (i : ℕ) → i < 16 → t + i < 80 → word n i window ≡ word n (t + i) schedule

-- the window after round t: its first word goes, and the next of the schedule comes behind the others; after word 79,
-- the last one, the first just turns to the end
unfoldable pub slid : Width → Count → ℕ → Sharing → Sharing
slid k n t window = drop n window ++ choose (leb (t + 17) 80) (following k n window) (take n window)
