-- The pages among which a figure is reached, as the search narrows them. Assumes nothing.
use Rattle.std.specs.Prelude.{false, Option, Some, None, List, ◌≡◌, ℕ, ◌+◌, ◌-◌, ◌≤◌, ◌<◌}
use Rattle.image.specs.Image.{max_hours}
use Rattle.image.specs.Read.{page_count_of, root_at, before_of}
use Rattle.image.specs.Check.{accepted}
use Rattle.image_find.specs.declared.Span.{Span}

-- two pages or more, and the roots around them: below q, and q or more
pub record Narrowable (q : ℕ) (r : Span) : Type 0 where
  pub many : r.lo < r.hi
  pub few : r.hi ≤ max_hours
  pub low : r.below < q
  pub high : q ≤ r.above
  pub small : r.above < 1099511627776

-- the root before the first page is below q, and that of the last is q or more; of the image's last page this is not known yet
pub record Between (s : List ℕ) (q : ℕ) (r : Span) : Type 0 where
  pub ordered : r.lo ≤ r.hi
  pub inside : r.hi < page_count_of s
  pub before : before_of s r.lo < q
  pub reaches : r.hi + 1 < page_count_of s → q ≤ root_at s r.hi
  pub low : r.below < q
  pub high : q ≤ r.above
  pub small : r.above < 1099511627776

-- one page
pub record HitAt (s : List ℕ) (q : ℕ) (r : Span) : Type 0 where
  pub between : Between s q r
  pub one : r.hi ≤ r.lo

-- the page p: the root before it is below q, and its own is q or more, but for the image's last page, of which this is not known
pub record PageHit (s : List ℕ) (q p : ℕ) : Type 0 where
  pub inside : p < page_count_of s
  pub before : before_of s p < q
  pub reaches : p + 1 < page_count_of s → q ≤ root_at s p

-- after a look at one of the pages: fewer pages, or damage
abbrev pub Narrowed : List ℕ → ℕ → Span → Option Span → Type 0
Narrowed s q at (Some r) = Between s q r × (r.hi - r.lo < at.hi - at.lo)
Narrowed s q at None = accepted s ≡ false

-- one page, or damage
abbrev pub Hit : List ℕ → ℕ → Option Span → Type 0
Hit s q (Some r) = HitAt s q r
Hit s q None = accepted s ≡ false
