-- Document 02, note 7, 'Match the bag': what the call answers, on any bytes. Assumes nothing.
use Rattle.std.specs.Prelude.{true, List, ◌≡◌, ℕ, ◌≤◌}
use Rattle.answers.specs.Refusals.{bag_empty}
use Rattle.answers.specs.Image.{fails}
use Rattle.answers.specs.Bag.{Bag}
use Rattle.answers.specs.Bag.Bag.{Run, None, Refused}
use Rattle.image.specs.Check.{accepted, check}
use Rattle.image.specs.Read.{list_of}
use Rattle.runs.specs.Runs.{FirstMatch, NoMatch}

-- what the call may answer to the figure q on the bytes s. There is one such answer (`one_answer`)
pub data MatchCall (s : List ℕ) (q : ℕ) : Bag → Type 0 where
  -- '5 and 6 of an image that must be accepted are those of the full check'
  not-accepted : (j : ℕ) → check s ≡ fails j → MatchCall s q (Refused j)
  -- 'It refuses with 17, after 5 and 6, a q of 0'
  no-coins : accepted s ≡ true → q ≡ 0 → MatchCall s q (Refused bag_empty)
  -- 'the earliest first hour, then the fewest hours'
  the-run : accepted s ≡ true → 1 ≤ q → (first hours : ℕ) → FirstMatch (list_of s) q first hours → MatchCall s q (Run first hours)
  -- 'Otherwise say none, and only if no such run is there'
  none : accepted s ≡ true → 1 ≤ q → NoMatch (list_of s) q → MatchCall s q None
