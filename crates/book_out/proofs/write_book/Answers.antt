-- `book_out::write_book` meets its contract. Assumes nothing.
use mathlib.Core.Path.{◌≡◌, sym, ap, ◌∙◌}
use Prim.Native.Nat.{ℕ, ◌*◌}
use native.Mathlib.Omega.{arith}
use lib.ListN.{length}
use Rattle.image.specs.Read.{list_of}
use Rattle.image.specs.declared.opened.Accepted.{Accepted}
use Rattle.image.proofs.Accepted.{length-list}
use Rattle.book_out.proofs.ToLaws.{book-4, book-put}
use Rattle.book_out.proofs.write_book.Goals as goal

-- the book's bytes
long : (image : Accepted) → 2 * image.head.hours ≡ 2 * length (list_of image.bytes.now)
long image = ap (λ (k : ℕ). 2 * k) (image.head_of.hours-is ∙ sym (length-list image.bytes.now))

pub returns-then-book-n : goal.returns-then-book-n
returns-then-book-n c =
    let image = c.args.image.now in
    book-4 (list_of image.bytes.now) c.args.book.now (2 * image.head.hours) c.requires (long image) c.if-book-n.true

pub put_book-requires : goal.put_book-requires
put_book-requires c = (c.requires, omega (arith, c.if-book-n.false, c.args.image.now.head_of.hours-is))

pub returns : goal.returns
returns c =
    let image = c.args.image.now in
    book-put (list_of image.bytes.now) c.args.book.now c.put_book.new.book (2 * image.head.hours) c.requires (long image) c.if-book-n.false
    c.put_book.ensures
