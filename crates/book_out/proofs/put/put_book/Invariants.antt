-- `book_out::put::put_book` meets its contract. The loop's invariant: the hours of the pages before p are put. Assumes nothing.
use mathlib.Core.Path.{◌≡◌}
use Prim.Native.Nat.{◌*◌, ◌^◌}
use lib.ListN.{take}
use Rattle.lists.specs.Lists.{splice}
use Rattle.book.specs.Book.{book_of}
use Rattle.image.specs.Read.{e_of, list_of}
use Rattle.book_out.proofs.put.put_book.Given as goal

abbrev pub invariant-loop-p : goal.invariant-loop-p
invariant-loop-p l =
    let s = l.image.bytes.now in
    l.book ≡ splice l.fn.book 0 (book_of (take (2 ^ e_of s * l.p) (list_of s)))
