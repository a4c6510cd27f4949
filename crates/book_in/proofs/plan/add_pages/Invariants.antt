-- `book_in::plan::add_pages` meets its contract. Assumes nothing.
use mathlib.Core.Path.{◌≡◌}
use Rattle.image_plan.specs.Code.Planning.{Drafted}
use Rattle.book.specs.Book.{list_of_book}
use Rattle.book_in.proofs.plan.add_pages.Given as goal

abbrev pub invariant-loop-page : goal.invariant-loop-page
invariant-loop-page l = record { drafted : Drafted l.fn.plan.e (list_of_book l.book) l.next; at : l.next.done ≡ l.page }
