-- Over and back. Assumes nothing.
use mathlib.Core.Path.{◌≡◌, sym, ap, ◌∙◌, subst}
use mathlib.Core.Bool.{true}
use mathlib.Core.List.{List}
use Prim.Native.Nat.{ℕ, ◌≤◌}
use native.Mathlib.Omega.{arith}
use lib.ListN.{length, get_or}
use Rattle.lists.specs.Counts.{within}
use Rattle.lists.proofs.CountLaws.{within-at}
use Rattle.image.specs.Check.{accepted}
use Rattle.image.specs.Image.{Limits, image}
use Rattle.image.specs.Read.{e_of, list_of}
use Rattle.image.proofs.Accepted.{accepted-only}
use Rattle.image.proofs.ReadLaws.{e-is}
use Rattle.image_back.proofs.ListBack.{accepted-image, list-is}
use Rattle.book.specs.Book.{book_of, decimal, four_digits, list_of_book}
use Rattle.book.proofs.BookLaws.{book-list, decimal-book, four-list, list-book}
use Rattle.book_in.specs.FromBook.{from_call}
use Rattle.book_out.specs.ToBook.{to_call}
use Rattle.book_trips.specs.RoundTrips.{Gave, RoundTrips}
use Rattle.book_trips.proofs.Given.{Back, Over, from-gave, from_gives, to-gave, to-gives}

-- ---- the image of a book
module _ {e : ℕ} {b s : List ℕ} (o : Over e b s) where
  list_same : list_of s ≡ list_of_book b
  list_same = ap list_of o.image-is ∙ list-is e (list_of_book b) o.limits

  book-same : book_of (list_of s) ≡ b
  book-same = ap book_of list_same ∙ book-list b o.is-decimal

  its-e : e_of s ≡ e
  its-e = ap e_of o.image-is ∙ e-is e (list_of_book b)

  its-four : four_digits (list_of s) ≡ true
  its-four = ap four_digits list_same ∙ four-list b o.is-decimal

  few : (i : ℕ) → get_or (list_of_book b) i 0 ≤ 4294967295
  unfolding four_digits within
  few i = omega (arith, within-at 9999 (list_of_book b) (four-list b o.is-decimal) i)

  is-good : accepted s ≡ true
  is-good = ap accepted o.image-is ∙ accepted-image e (list_of_book b) o.limits few

-- ---- the book of an image
module _ {s b : List ℕ} (k : Back s b) where
  said : list_of_book b ≡ list_of s
  said = ap list_of_book k.book-is ∙ list-book (list_of s) k.four

  image-same : image (e_of s) (list_of_book b) ≡ s
  image-same = ap (image (e_of s)) said ∙ sym (accepted-only s k.is-accepted).bytes

  its-limits : Limits (e_of s) (list_of_book b)
  its-limits = subst (Limits (e_of s)) (sym said) (accepted-only s k.is-accepted).limits

  its-decimal : decimal b ≡ true
  its-decimal = ap decimal k.book-is ∙ decimal-book (list_of s) k.four

pub round-trips : RoundTrips
round-trips = record {
  book-again = λ e b out s out' c g h. (to-gave s out' c h).book-is ∙ book-same (from-gave e b out s g);
  image-again = λ s out b out' t g h. (from-gave (e_of s) b out' t h).image-is ∙ image-same (to-gave s out b g);
  own-e = λ e b out s g. its-e (from-gave e b out s g);
  book-comes = λ e b out s out' g l.
      let o = from-gave e b out s g in
      subst (Gave (to_call s out')) (book-same o) (to-gives s out' (is-good o) (its-four o) (omega (arith, l, ap length (book-same o))));
  image-comes = λ s out b out' g l.
      let k = to-gave s out b g in
      subst (Gave (from_call (e_of s) b out')) (image-same k)
      (from_gives (e_of s) b out' (its-decimal k) (its-limits k) (omega (arith, l, ap length (image-same k))));
}
