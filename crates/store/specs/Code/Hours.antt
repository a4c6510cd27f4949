-- What the functions of src/ ask and say of the change of one hour. Assumes nothing.
use Rattle.std.specs.Prelude.{true, List, [], ◌∷◌, ◌++◌, ◌≡◌, ℕ, ◌*◌, ◌≤◌, ◌<◌, length, set, eqb}
use Rattle.lists.specs.Lists.{pick}
use Rattle.store.specs.Limits.{page_hours}
use Rattle.store.specs.PageCode.{cells}
use Rattle.store.specs.Plain.{Outcome, change}
use Rattle.answers.specs.Store.{Answer}
use Rattle.store.specs.Layout.{bytes_of, cells_start}
use Rattle.store.specs.Reading.{list_in, page_count_of, read, sum_in}
use Rattle.store.specs.Sound.{sound}
use Rattle.store.specs.Code.Chained.{HoldsChains}
use Rattle.store.specs.Call.{settle}

-- a store that is sound, with a page for hour i, which is logged or the next to be logged
pub record Asked (s : List ℕ) (i : ℕ) : Type 0 where
  pub is-sound : sound s ≡ true
  pub inside : i < page_hours * page_count_of s
  pub reached : i ≤ length (list_in s)

-- page p of a store, sound or between two pages of a change, whose cells start at base: its sum, and its cells
pub record OfPage (s : List ℕ) (base p sum k : ℕ) : Type 0 where
  pub holds : HoldsChains s
  pub base-is : base ≡ cells_start (page_count_of s)
  pub inside : p < page_count_of s
  pub sum_is : sum ≡ sum_in s p
  pub cells_is : k ≡ cells sum

-- the list with v at hour i: at its end, or in place of the count there
unfoldable pub with_hour : List ℕ → ℕ → ℕ → List ℕ
with_hour xs i v = pick (eqb i (length xs)) (xs ++ v ∷ []) (set xs i v)

-- the plain list's change of hour i to v
unfoldable pub change_to : List ℕ → ℕ → ℕ → Outcome
change_to s i v = change (read s).plain (with_hour (list_in s) i v)

-- the answer r and the bytes t are those of this change
pub record Changes (s : List ℕ) (i v : ℕ) (r : Answer) (t : List ℕ) : Type 0 where
  pub answer : r ≡ (change_to s i v).answer
  pub bytes : t ≡ bytes_of (settle (read s) (change_to s i v) (change_to s i v).answer)
