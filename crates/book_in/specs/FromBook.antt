-- Document 02, note 3: 'Turn such a book into an image with a given e'. Assumes nothing.
use Rattle.std.specs.Prelude.{◌&&◌, List, ℕ, leb}
use Rattle.answers.specs.Refusals.{book_wrong, page_size_wrong}
use Rattle.lists.specs.Lists.{pick}
use Rattle.image.specs.Calls.{Result, unwritten, write_call}
use Rattle.book.specs.Book.{decimal, list_of_book}

-- 'with 14, after 1 and before 2, a book of odd length or with a digit above 9'; then what write answers and leaves for the book's list: 2
-- and 4, for 1 was tried and 3 never comes (`only-long`)
unfoldable pub from_call : ℕ → List ℕ → List ℕ → Result
from_call e b out =
    pick (leb 2 e && leb e 8) (pick (decimal b) (write_call e (list_of_book b) out) (unwritten out book_wrong)) (unwritten out page_size_wrong)
