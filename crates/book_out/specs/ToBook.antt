-- Document 02, note 3: 'an accepted image back into a book'. Assumes nothing.
use Rattle.std.specs.Prelude.{List, ℕ}
use Rattle.answers.specs.Refusals.{count_too_wide}
use Rattle.lists.specs.Lists.{pick}
use Rattle.image.specs.Calls.{Result, past, put, unwritten}
use Rattle.image.specs.Check.{check}
use Rattle.image.specs.Read.{list_of}
use Rattle.book.specs.Book.{book_of, four_digits}

-- a list's book into a buffer: 'with 15, after 5 and 6 and before 4, which comes last here, an image with a count above 9999'; 'refusal 4 also
-- covers a buffer shorter than the book'; 'Both calls return how many bytes they wrote and leave later output bytes unchanged'
unfoldable pub book_put : List ℕ → List ℕ → Result
book_put xs out = pick (four_digits xs) (put out (book_of xs)) (unwritten out count_too_wide)

-- the book of the list that the bytes s say
unfoldable pub to_call : List ℕ → List ℕ → Result
to_call s out = past (check s) out (book_put (list_of s) out)
