-- Document 02, note 4, 'Days with a clock change': which hours are a day's. Assumes nothing.
use Rattle.std.specs.Prelude.{Bool, true, ◌&&◌, ◌||◌, List, [], ◌∷◌, map, ◌⊎◌, ◌≡◌, ℕ, ◌+◌, ◌*◌, ◌%◌, ◌≤◌, ◌<◌, length, get_or, ltb, eqb}
use Rattle.lists.specs.Lists.{every, pick, sum, tabulate}

-- 'a lent list of pairs, day number and hours by turns': the day numbers, and the hours
unfoldable pub day_numbers : List ℕ → List ℕ
day_numbers [] = []
day_numbers (d ∷ []) = d ∷ []
day_numbers (d ∷ h ∷ rest) = d ∷ day_numbers rest

unfoldable pub hours_given : List ℕ → List ℕ
hours_given [] = []
hours_given (d ∷ []) = []
hours_given (d ∷ h ∷ rest) = h ∷ hours_given rest

-- each number is above the one before it
unfoldable pub rises : List ℕ → Bool
rises [] = true
rises (a ∷ []) = true
rises (a ∷ b ∷ rest) = ltb a b && rises (b ∷ rest)

-- 'Twice a year arcades have 23 or 25'
unfoldable pub is_change_day : ℕ → Bool
is_change_day h = eqb h 23 || eqb h 25

-- 'It refuses with 16 .. a list with an odd number of entries, or whose day numbers don't rise strictly or whose hours are neither 23 nor 25':
-- any other list fits
unfoldable pub changes_fit : List ℕ → Bool
changes_fit cs = every (eqb (length cs % 2) 0 ∷ rises (day_numbers cs) ∷ every (map is_change_day (hours_given cs)) ∷ [])

-- The same in facts, of a list that does not fit. Days stand at 2k and their hours at 2k + 1: 'an odd number of entries'; a day that the next one
-- is not above; hours that are 'neither 23 nor 25'
abbrev pub ChangesWrong : List ℕ → Type 0
ChangesWrong cs =
    (length cs % 2 ≡ 1)
    ⊎ (((k : ℕ) × (2 * k + 2 < length cs) × (get_or cs (2 * k + 2) 0 ≤ get_or cs (2 * k) 0))
    ⊎ ((k : ℕ) × (2 * k + 1 < length cs) × (get_or cs (2 * k + 1) 0 ≡ 23 → ⊥) × (get_or cs (2 * k + 1) 0 ≡ 25 → ⊥)))

-- 'Days in the list have the hours it gives, others 24'
unfoldable pub day_hours : List ℕ → ℕ → ℕ
day_hours [] d = 24
day_hours (x ∷ []) d = 24
day_hours (x ∷ h ∷ rest) d = pick (eqb x d) h (day_hours rest d)

-- 'Day d starts after the hours of all days before it', days 0 to d - 1, and ends after its own
unfoldable pub day_start : List ℕ → ℕ → ℕ
day_start cs d = sum (tabulate d (day_hours cs))

unfoldable pub day_end : List ℕ → ℕ → ℕ
day_end cs d = day_start cs d + day_hours cs d
