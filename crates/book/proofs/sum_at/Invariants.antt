-- The loop's invariant: the sum of the first i hours. Assumes nothing.
use Rattle.std.proofs.Common.{◌≡◌, ◌*◌, ◌≤◌}
use Rattle.lists.specs.Lists.{sum, window}
use Rattle.book.specs.Book.{list_of_book}
use Rattle.book.proofs.sum_at.Given as goal

abbrev pub invariant-loop-i : goal.invariant-loop-i
invariant-loop-i l = (l.total ≡ sum (window (list_of_book l.book) l.from l.i)) × (l.total ≤ 16665 * l.i)
