-- Document 02, note 9, 'Two coin doors': what the call answers, and the bytes afterwards. Assumes nothing.
use Rattle.std.specs.Prelude.{◌&&◌, List, ℕ, ◌+◌, max, leb, length, get_or}
use Rattle.lists.specs.Counts.{max_count, within}
use Rattle.answers.specs.Refusals.{page_size_wrong, total_too_high}
use Rattle.lists.specs.Lists.{pick, tabulate}
use Rattle.image.specs.Calls.{Result, past, unwritten, write_call}
use Rattle.image.specs.Check.{check}
use Rattle.image.specs.Read.{list_of}

-- 'the hour-by-hour sums, the shorter log taken as zero beyond its end'
unfoldable pub sums : List ℕ → List ℕ → List ℕ
sums xs ys = tabulate (max (length xs) (length ys)) (λ i. get_or xs i 0 + get_or ys i 0)

-- 'then 3 if a count passes 4,294,967,295'; 'or the total its limit, then 4' are those of write
unfoldable pub merge_lists : ℕ → List ℕ → List ℕ → List ℕ → Result
merge_lists e xs ys out = pick (within max_count (sums xs ys)) (write_call e (sums xs ys) out) (unwritten out total_too_high)

-- 'Refusals: 1, then 5 and 6 of the first, the same of the second'
unfoldable pub merge_call : ℕ → List ℕ → List ℕ → List ℕ → Result
merge_call e a b out =
    pick (leb 2 e && leb e 8) (past (check a) out (past (check b) out (merge_lists e (list_of a) (list_of b) out))) (unwritten out page_size_wrong)
