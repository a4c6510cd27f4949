-- The search for a run with sum q, page after page of the hours at which it may end. Assumes nothing.
use Rattle.std.specs.Prelude.{List, ◌≡◌, ℕ, ◌+◌, ◌-◌, ◌%◌, ◌^◌, ◌≤◌, ◌<◌, length}
use Rattle.lists.specs.Lists.{reading}
use Rattle.image.specs.Read.{list_of}
use Rattle.image.specs.declared.head.Head.{Head}
use Rattle.runs.specs.Code.{NoneBefore}
use Rattle.runs.specs.Runs.{FirstMatch}
use Rattle.match_page.specs.declared.FrontPage.{FrontPage}
use Rattle.match_seek.specs.declared.Aim.{Aim}
use Rattle.match_seek.specs.declared.PageSearch.{PageSearch}
use Rattle.match_seek.specs.declared.PageSearch.TheVariants.{Beyond, Matched}

-- where the search stands: no run that starts before lo has the sum q, which is not 0, and one from lo on that has it ends where so many coins as are wanted
-- have come in since hour first
pub record Seeks (xs : List ℕ) (q first : ℕ) (at : Aim) : Type 0 where
  pub inside : at.lo ≤ length xs
  pub wants : reading xs at.lo + q ≡ reading xs first + at.want
  pub some : 1 ≤ at.want
  pub none_before : NoneBefore xs q at.lo
  pub coins : 1 ≤ q

-- it stands where it passes on: what is wanted is within the page, and no run from hour lo on has the sum
abbrev pub Passing : List ℕ → ℕ → FrontPage → Aim → Type 0
Passing xs q page at = Seeks xs q page.first at × (at.want ≤ page.sum) × NoneBefore xs q (at.lo + 1)

-- the same, unless more is wanted than the page has
abbrev pub Reached : List ℕ → ℕ → FrontPage → Aim → Type 0
Reached xs q page at = Seeks xs q page.first at × (at.want ≤ page.sum → NoneBefore xs q (at.lo + 1))

-- the first of the four hours after lo that wants more than sum, where they want a, b, c and d, each no less than the one before
pub data FirstAbove (sum lo a b c d : ℕ) : Aim → Type 0 where
  at_first : sum < a → FirstAbove sum lo a b c d (record { lo = lo + 1; want = a })
  at_second : a ≤ sum → sum < b → FirstAbove sum lo a b c d (record { lo = lo + 2; want = b })
  at-third : b ≤ sum → sum < c → FirstAbove sum lo a b c d (record { lo = lo + 3; want = c })
  at-fourth : c ≤ sum → sum < d → FirstAbove sum lo a b c d (record { lo = lo + 4; want = d })

-- where it stands some hours later, no further than at the first hour of the next page
pub record Later (xs : List ℕ) (h : Head) (q first : ℕ) (at r : Aim) : Type 0 where
  pub seeks : Seeks xs q first r
  pub on : at.lo < r.lo
  pub room : at.lo % 2 ^ h.e + (r.lo - at.lo) ≤ 2 ^ h.e

-- what a page brought: the run, or a first hour for which more is wanted than the page has, which the cursor is at
abbrev pub Brings : List ℕ → ℕ → FrontPage → ℕ → PageSearch → Type 0
Brings s q page hour (Matched run) = FirstMatch (list_of s) q run.first run.hours
Brings s q page hour (Beyond at) = Seeks (list_of s) q page.first at × (page.sum < at.want) × (hour ≡ at.lo)
