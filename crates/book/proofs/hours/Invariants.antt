-- The loop's invariant: the first i hours are put. Assumes nothing.
use Rattle.std.proofs.Common.{◌≡◌, ◌+◌, ◌<◌, ℕ, get_or}
use Rattle.book.specs.Book.{list_of_book}
use Rattle.book.proofs.hours.Given as goal

abbrev pub invariant-loop-i : goal.invariant-loop-i
invariant-loop-i l = (k : ℕ) → k < l.i → get_or l.counts k 0 ≡ get_or (list_of_book l.book) (l.from + k) 0
