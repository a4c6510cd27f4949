-- `book_in::put::put_image` meets its contract. Assumes nothing.
use mathlib.Core.Path.{◌≡◌}
use lib.ListN.{length}
use Rattle.book.specs.Book.{list_of_book}
use Rattle.image_put.specs.Code.Writing.{Laid}
use Rattle.book_in.proofs.put.put_image.Given as goal

abbrev pub invariant-loop-page : goal.invariant-loop-page
invariant-loop-page l = record { long : length l.counts ≡ l.m; laid : Laid (list_of_book l.book) l.fn.out l.out l.r l.at; at : l.at.page ≡ l.page }
