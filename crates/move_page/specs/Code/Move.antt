-- A page whose counts move by one place. Assumes nothing.
use Rattle.std.specs.Prelude.{List, ◌≡◌, ℕ, ◌+◌, ◌*◌, ◌≤◌, ◌<◌}
use Rattle.lists.specs.Lists.{sum}
use Rattle.bits.specs.Numbers.{number_at}
use Rattle.store.specs.PageCode.{cells}
use Rattle.store.specs.Plain.{page}
use Rattle.store.specs.Layout.{bytes_of, cells_start, resize}
use Rattle.store.specs.Limits.{max_total, page_hours}
use Rattle.store.specs.Reading.{list_in, page_count_of, read, sum_in}
use Rattle.store.specs.Code.Chained.{HoldsChains}
use Rattle.store.specs.Code.Moving.{repaged}
use Rattle.move_counts.specs.Code.Turned.{turned}
use Rattle.move_page.specs.declared.PageMove.{PageMove}

-- the page's counts afterwards
abbrev pub counts_after : List ℕ → PageMove → List ℕ
counts_after s c = turned c.edit (page (list_in s) c.page) c.at c.count

-- what is asked: the page is there and has its cells, its counts fit afterwards, and there are the cells that they need
pub record Movable (s : List ℕ) (base : ℕ) (c : PageMove) (hours : ℕ) : Type 0 where
  pub holds : HoldsChains s
  pub base-is : base ≡ cells_start (page_count_of s)
  pub inside : c.page < page_count_of s
  pub within : c.at < page_hours
  pub old-is : c.old ≡ cells (sum_in s c.page)
  pub fits : sum (counts_after s c) ≤ max_total
  pub new_is : c.new ≡ cells (sum (counts_after s c))
  pub enough : c.new ≤ c.old + number_at s 8 2
  pub hours-are : hours ≡ page_hours * page_count_of s

-- what is left: the page has these counts and the cells that they need, every other page what it had
abbrev pub Moved : List ℕ → PageMove → List ℕ → Type 0
Moved s c t =
    t ≡ bytes_of (resize (read s) (repaged (read s).plain.pages (list_in s) c.page (counts_after s c)) c.page (cells (sum (counts_after s c))))
