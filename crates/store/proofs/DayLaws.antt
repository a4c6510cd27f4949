-- The day call of document 02's note 4, case by case. Assumes nothing.
use mathlib.Core.Path.{◌≡◌}
use mathlib.Core.Bool.{true, false}
use mathlib.Core.List.{List, []}
use Prim.Native.Nat.{ℕ, ◌+◌, ◌-◌, ◌*◌, ◌≤◌, ◌<◌}
use lib.ListN.{length}
use lib.Dec.{ltb}
use borrow.Author.Tests.{le-ltb, lt-ltb}
use Rattle.answers.specs.Refusals.{changes_wrong, not_logged}
use Rattle.lists.specs.Lists.{every, pick, reading}
use Rattle.days.specs.Days.{changes_fit, day_end, day_numbers, day_start, hours_given, rises}
use Rattle.days.proofs.DayLaws.{old-end, old-start}
use Rattle.store.specs.Plain.{Day, Plain, refuse, step, tell}

module _ (d : ℕ) (cs : List ℕ) (L : Plain) where
  -- 'refusal 16 before its 7': a wrong list is refused 16, logged or not
  pub wrong-list : changes_fit cs ≡ false → step (Day d cs) L ≡ refuse changes_wrong L
  unfolding step pick
  wrong-list e = rw e

  module _ (e : changes_fit cs ≡ true) where
    -- '7 now stands for a day whose end is above N'
    pub not-over : length L.counts < day_end cs d → step (Day d cs) L ≡ refuse not_logged L
    unfolding step pick
    not-over l = rw (e, lt-ltb (length L.counts) (day_end cs d) l)

    pub over : day_end cs d ≤ length L.counts
        → step (Day d cs) L ≡ tell (reading L.counts (day_end cs d) - reading L.counts (day_start cs d)) L
    unfolding step pick
    over l = rw (e, le-ltb (length L.counts) (day_end cs d) l)

-- Document 02, note 4: 'An empty list gives the old answers'. Document 01: 'day d: reading at 24d + 24 minus reading at 24d; 7 if
-- 24d + 24 > N'
pub old-day : (d : ℕ) (L : Plain)
    → step (Day d []) L
    ≡ pick (ltb (length L.counts) (24 * d + 24)) (refuse not_logged L)
    (tell (reading L.counts (24 * d + 24) - reading L.counts (24 * d)) L)
unfolding step pick changes_fit every rises day_numbers hours_given
old-day d L = rw (old-end d, old-start d)
