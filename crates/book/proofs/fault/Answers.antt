-- `book::fault` meets its contract. Assumes nothing.
use borrow.Author.Tests.{le-leb, lt-leb}
use Rattle.book.specs.Book.{decimal_byte}
use Rattle.book.proofs.fault.Goals as goal

pub returns-then-b-gt9 : goal.returns-then-b-gt9
unfolding decimal_byte
returns-then-b-gt9 c = simp (lt-leb _ _ c.if-b-gt9.true)

pub returns-then-b-gt9-2 : goal.returns-then-b-gt9-2
unfolding decimal_byte
returns-then-b-gt9-2 c = simp (le-leb _ _ c.if-b-gt9.false, lt-leb _ _ c.if-b-gt9-2.true)

pub returns : goal.returns
unfolding decimal_byte
returns c = simp (le-leb _ _ c.if-b-gt9.false, le-leb _ _ c.if-b-gt9-2.false)
