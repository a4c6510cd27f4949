-- A shift carried out. Assumes nothing.
use Rattle.std.specs.Prelude.{List, ◌≡◌, ℕ}
use Rattle.answers.specs.Store.{Answer}
use Rattle.store.specs.Plain.{Outcome, change}
use Rattle.store.specs.Layout.{bytes_of}
use Rattle.store.specs.Reading.{list_in, read}
use Rattle.store.specs.Call.{settle}
use Rattle.move_plan.specs.Code.Plan.{shifted}
use Rattle.move_plan.specs.declared.shift.Shift.{Shift}

-- the plain list's change
unfoldable pub shift_of : List ℕ → Shift → Outcome
shift_of s m = change (read s).plain (shifted m (list_in s))

-- the answer r and the bytes t are those of this change
pub record Carried (s : List ℕ) (m : Shift) (r : Answer) (t : List ℕ) : Type 0 where
  pub answer : r ≡ (shift_of s m).answer
  pub bytes : t ≡ bytes_of (settle (read s) (shift_of s m) (shift_of s m).answer)
