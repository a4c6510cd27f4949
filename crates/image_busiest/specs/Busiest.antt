-- Document 02, note 1, 'Busiest stretch': what the call answers, on any bytes. Assumes nothing.
use Rattle.std.specs.Prelude.{true, List, ◌⊎◌, ◌≡◌, ℕ, ◌≤◌, ◌<◌, length}
use Rattle.answers.specs.Refusals.{stretch_wrong}
use Rattle.answers.specs.Image.{fails}
use Rattle.answers.specs.Stretch.{Stretch}
use Rattle.answers.specs.Stretch.Stretch.{Run, Refused}
use Rattle.image.specs.Check.{accepted, check}
use Rattle.image.specs.Read.{list_of}
use Rattle.runs.specs.Runs.{Busiest}

-- What the call answers to k on the bytes s. There is one such answer, and one alone (`some-answer`, `one_answer`)
pub data BusiestCall (s : List ℕ) (k : ℕ) : Stretch → Type 0 where
  -- '5 and 6 of an image that must be accepted are those of the full check'
  not-accepted : (j : ℕ) → check s ≡ fails j → BusiestCall s k (Refused j)
  -- 'It refuses after 5 and 6 with 13 if k is 0 or above N'
  no-such-run : accepted s ≡ true → (k ≡ 0) ⊎ (length (list_of s) < k) → BusiestCall s k (Refused stretch_wrong)
  -- 'its first hour and its sum'
  the-run : accepted s ≡ true → 1 ≤ k → (first total : ℕ) → Busiest (list_of s) k first total → BusiestCall s k (Run first total)
