-- What the functions of src/ hand each other. Assumes nothing.
use Rattle.std.specs.Prelude.{List, ◌≡◌, ℕ, ◌+◌, ◌-◌, ◌%◌, ◌^◌, ◌≤◌, ltb, length}
use Rattle.lists.specs.Lists.{pick}
use Rattle.image.specs.Read.{list_of}
use Rattle.image.specs.declared.head.Head.{Head}
use Rattle.image_cursor.specs.declared.cursor.Cursor.{Cursor}
use Rattle.runs.specs.Code.{Best}
use Rattle.runs.specs.Runs.{run_sum}
use Rattle.image_busiest.specs.declared.window.Window.{Window}

-- a window of k hours, and the best so far
pub record Looked (s : List ℕ) (k : ℕ) (w : Window) : Type 0 where
  pub inside : w.first + k ≤ length (list_of s)
  pub sum_is : w.sum ≡ run_sum (list_of s) w.first k
  pub best-is : Best (list_of s) k w.first w.best.first w.best.total

-- a cursor at the hour behind a window of k hours, and one at its first hour
pub record AtEnds (k : ℕ) (w : Window) (front back : Cursor) : Type 0 where
  pub same : front.image.now ≡ back.image.now
  pub behind : front.hour ≡ w.first + k
  pub first : back.hour ≡ w.first

-- n hours that the window from hour j on can move at a time
pub record Along (h : Head) (k j n : ℕ) : Type 0 where
  pub some : 1 ≤ n
  pub inside : j + k + n ≤ h.hours
  pub front-room : (j + k) % 2 ^ h.e + n ≤ 2 ^ h.e
  pub back-room : j % 2 ^ h.e + n ≤ 2 ^ h.e

-- the window one hour later, and the better of the best so far and itself
unfoldable pub later : Window → ℕ → ℕ → Window
later w more less =
    pick (ltb w.best.total (w.sum + more - less))
    (record { first = w.first + 1; sum = w.sum + more - less; best = record { first = w.first + 1; total = w.sum + more - less } })
    (record { first = w.first + 1; sum = w.sum + more - less; best = w.best })
