-- The loop's invariant: the first i counts are put. Assumes nothing.
use Rattle.std.proofs.Common.{◌≡◌, ◌*◌, take}
use Rattle.lists.specs.Lists.{splice}
use Rattle.book.specs.Book.{book_of}
use Rattle.book_pack.proofs.put_hours.Given as goal

abbrev pub invariant-loop-i : goal.invariant-loop-i
invariant-loop-i l = l.book ≡ splice l.initial.book (2 * l.from) (book_of (take l.i l.counts))
