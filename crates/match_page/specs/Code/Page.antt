-- The page at the front, where runs may end. Assumes nothing.
use Rattle.std.specs.Prelude.{List, ◌≡◌, ℕ, ◌+◌, ◌/◌, ◌%◌, ◌^◌, ◌≤◌, ◌<◌, length}
use Rattle.lists.specs.Lists.{part}
use Rattle.image.specs.Read.{list_of, sum_of}
use Rattle.image.specs.declared.head.Head.{Head}
use Rattle.image_cursor.specs.Code.Cursor.{Ahead}
use Rattle.runs.specs.Runs.{run_sum}
use Rattle.sum_marks.specs.Code.Marks.{Marked}
use Rattle.match_page.specs.declared.FrontPage.{FrontPage}

-- its hours are a run of the list, and this is their sum
pub record RunOf (xs : List ℕ) (page : FrontPage) : Type 0 where
  pub inside : page.first + page.hours ≤ length xs
  pub sum_is : page.sum ≡ run_sum xs page.first page.hours

-- a page of the image: it starts with an hour that is logged, where pages meet, and has all from there on
pub record FrontPageOf (s : List ℕ) (h : Head) (page : FrontPage) : Type 0 where
  pub logged : page.first < h.hours
  pub meets : page.first % 2 ^ h.e ≡ 0
  pub whole : Ahead h page.first page.hours
  pub run_is : RunOf (list_of s) page
  pub sum-of : page.sum ≡ sum_of s (page.first / 2 ^ h.e)

-- the page's counts, and a table with the marks of their sums
pub record InHand (xs : List ℕ) (page : FrontPage) (counts marks : List ℕ) : Type 0 where
  pub counts-are : counts ≡ part xs page.first page.hours
  pub marked : Marked counts page.stamp marks
