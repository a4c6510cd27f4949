-- The pages of a shift moved one by one. Assumes nothing.
use Rattle.std.specs.Prelude.{Bool, List, ◌≡◌, ℕ, ◌*◌, ◌≤◌, length}
use Rattle.store.specs.Limits.{page_hours}
use Rattle.store.specs.Plain.{need, relisted}
use Rattle.store.specs.Layout.{bytes_of, cells_start}
use Rattle.store.specs.Reading.{cells_of, list_in, page_count_of, read}
use Rattle.store.specs.Settle.{settled}
use Rattle.store.specs.Code.Moving.{moving}
use Rattle.move_plan.specs.Code.Plan.{Counted, Leaves, Shiftable, shifted}
use Rattle.move_plan.specs.declared.shift.Shift.{Shift}
use Rattle.move_pages.specs.declared.Plan.{Plan}

-- a sound store z with cells enough for the shift, and what was worked out of it
pub record Enough (z : List ℕ) (w : Plan) : Type 0 where
  pub shiftable : Shiftable z w.shift
  pub enough : need (shifted w.shift (list_in z)) (page_count_of z) ≤ cells_of z
  pub base-is : w.base ≡ cells_start (page_count_of z)
  pub leaves : Leaves w.shift (list_in z) w.leaving.now w.shift.end
  pub had : Counted w.shift (list_in z) w.old.now w.shift.end
  pub asked : Counted w.shift (shifted w.shift (list_in z)) w.new.now w.shift.end
  pub leaving-long : w.shift.end ≤ length w.leaving.now
  pub old-long : w.shift.end ≤ length w.old.now
  pub new-long : w.shift.end ≤ length w.new.now
  pub hours-are : w.all ≡ page_hours * page_count_of z

-- the bytes s are those of z's shift when the pass has come to page n
abbrev pub Stands : List ℕ → Shift → Bool → ℕ → List ℕ → Type 0
Stands z m late n s = s ≡ bytes_of (moving late (read z) (shifted m (list_in z)) n)

-- at page n the bytes s are those of some such store
abbrev pub Some : Plan → Bool → ℕ → List ℕ → Type 0
Some w late n s = (z : List ℕ) × Enough z w × Stands z w.shift late n s

-- from there the pass comes to the page `to`, where the bytes are t: of each such store
abbrev pub PassTo : Plan → Bool → ℕ → (List ℕ → ℕ) → List ℕ → List ℕ → Type 0
PassTo w late n to s t = (z : List ℕ) → Enough z w → Stands z w.shift late n s → Stands z w.shift late (to z) t

-- the end of a pass
abbrev pub pages_in : List ℕ → ℕ
pages_in z = (read z).plain.pages

-- t is the store s with the list that the shift asks for
abbrev pub Settles : List ℕ → Shift → List ℕ → Type 0
Settles s m t = t ≡ bytes_of (settled (read s) (relisted (read s).plain (shifted m (list_in s))))
