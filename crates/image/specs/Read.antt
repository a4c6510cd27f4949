-- What bytes say when they are read as an image, tested by nothing. Assumes nothing.
use Rattle.std.specs.Prelude.{Bool, List, ℕ, zero, suc, ◌+◌, ◌-◌, get_or, take, eqb}
use Rattle.lists.specs.Lists.{tabulate, concat, part}
use Rattle.bits.specs.Bits.{bits, value}
use Rattle.bits.specs.Numbers.{number_at}
use Rattle.reserve.specs.Reserve.{digits}
use Rattle.tree.specs.Read.{counts}
use Rattle.image.specs.Image.{bits_place, code_start, pages, table_at, total_width}

-- ---- the header: '0 is 1 (edition)', or 2; '1 is e', '4-7 N, 8-11 total S, 12-15 L', or '8-15 S, 16-19 L'
unfoldable pub wide_of : List ℕ → Bool
wide_of s = eqb (get_or s 0 0) 2

unfoldable pub e_of : List ℕ → ℕ
e_of s = get_or s 1 0

unfoldable pub n_of : List ℕ → ℕ
n_of s = number_at s 4 4

unfoldable pub s_of : List ℕ → ℕ
s_of s = number_at s 8 (total_width (wide_of s))

unfoldable pub l_of : List ℕ → ℕ
l_of s = number_at s (bits_place (wide_of s)) 4

unfoldable pub page_count_of : List ℕ → ℕ
page_count_of s = pages (e_of s) (n_of s)

-- r, the width of a root
unfoldable pub width_of : List ℕ → ℕ
width_of s = digits (s_of s)

-- ---- page p
-- its start bit, from the table
unfoldable pub start_of : List ℕ → ℕ → ℕ
start_of s p = number_at s (table_at (wide_of s) p) 4

-- where the code starts among the bits of all the bytes
unfoldable pub code_at : List ℕ → ℕ
code_at s = code_start (wide_of s) (page_count_of s)

-- its root
unfoldable pub root_at : List ℕ → ℕ → ℕ
root_at s p = value (part (bits s) (code_at s + start_of s p) (width_of s))

-- 'the root of the page before it (0 before page 0)'
unfoldable pub before_of : List ℕ → ℕ → ℕ
before_of s zero = 0
before_of s (suc p) = root_at s p

-- the sum of its counts
unfoldable pub sum_of : List ℕ → ℕ → ℕ
sum_of s p = root_at s p - before_of s p

-- where its tree starts among the bits of all the bytes
unfoldable pub tree_at : List ℕ → ℕ → ℕ
tree_at s p = code_at s + start_of s p + width_of s

-- its counts
unfoldable pub page_of : List ℕ → ℕ → List ℕ
page_of s p = counts (e_of s) (sum_of s p) (bits s) (tree_at s p)

-- ---- the list
unfoldable pub list_of : List ℕ → List ℕ
list_of s = take (n_of s) (concat (tabulate (page_count_of s) (page_of s)))
