-- The exports of books keep their promise. Assumes nothing.
use mathlib.Core.Path.{◌≡◌, refl, ap}
use mathlib.Core.Bool.{Bool, true, false, ◌&&◌}
use mathlib.Core.List.{List, [], ◌∷◌, ◌++◌}
use Prim.Native.Nat.{ℕ, ◌≤◌}
use native.Mathlib.Omega.{arith}
use lib.ListN.{length, drop}
use lib.Dec.{leb}
use Rattle.lists.specs.Lists.{pick}
use Rattle.answers.specs.Image.{Reply, Verdict, fails, given, holds}
use Rattle.image.specs.Calls.{Result, past, put, unwritten, write_call}
use Rattle.image.specs.Check.{check}
use Rattle.image.specs.Read.{list_of}
use Rattle.image.proofs.Accepted.{accepted-only}
use Rattle.image.proofs.Sizes.{SmallVerdict, check-small, write-small}
use Rattle.image.proofs.CheckLaws.{check-held}
use Rattle.book.specs.Book.{book_of, decimal, four_digits, list_of_book}
use Rattle.book.proofs.BookLaws.{length-book}
use Rattle.book_in.specs.FromBook.{from_call}
use Rattle.book_out.specs.ToBook.{book_put, to_call}
use Rattle.hourlog_c.specs.Public.{ImageFromBcd, ImageToBcd}
use Rattle.words.specs.End.{end_of_image}
use Rattle.words.specs.Words.{word_of}
use Rattle.hourlog_c.specs.Export.{Answers}
use Rattle.hourlog_c.proofs.Exports.{answers, reply-word, small-image}
use Rattle.words.proofs.WordLaws.{Small}

-- ---- every answer is small
from-small : (e : ℕ) (b out : List ℕ) → Small (end_of_image (from_call e b out).reply)
unfolding from_call pick unwritten end_of_image
from-small e b out = go (leb 2 e && leb e 8) (decimal b)
  where
    go : (t u : Bool) → Small (end_of_image (pick t (pick u (write_call e (list_of_book b) out) (unwritten out 14)) (unwritten out 1)).reply)
    go true true = small-image (write_call e (list_of_book b) out).reply (write-small e (list_of_book b) out)
    go true false = omega arith
    go false u = omega arith

book-small : (xs out : List ℕ) → length xs ≤ 65536 → Small (end_of_image (book_put xs out).reply)
unfolding book_put put pick unwritten end_of_image
book-small xs out l = go (four_digits xs) (leb (length (book_of xs)) (length out))
  where
    done : Result
    done = record { reply = given (length (book_of xs)); bytes = book_of xs ++ drop (length (book_of xs)) out }

    go : (t u : Bool) → Small (end_of_image (pick t (pick u done (unwritten out 4)) (unwritten out 15)).reply)
    go true true = omega (arith, length-book xs)
    go true false = omega arith
    go false u = omega arith

to-small : (s out : List ℕ) → Small (end_of_image (to_call s out).reply)
unfolding to_call past unwritten end_of_image
to-small s out = go (check s) refl (check-small s)
  where
    go : (v : Verdict) → check s ≡ v → SmallVerdict v → Small (end_of_image (past v out (book_put (list_of s) out)).reply)
    go (holds n t) q w = book-small (list_of s) out (accepted-only s (check-held s n t q)).limits.hours
    go (fails k) q w = (w.0, omega (arith, w.1))

-- ---- the calls
pub from-answers : (b out t : List ℕ) (e w : ℕ) (r : Reply) → w ≡ word_of (end_of_image r) → record { reply = r; bytes = t } ≡ from_call e b out
    → Answers (ImageFromBcd b e out) w (b ∷ t ∷ [])
from-answers b out t e w r q d =
    answers (ImageFromBcd b e out) w (b ∷ t ∷ []) (end_of_image (from_call e b out).reply) (refl, ap (λ (z : Result). b ∷ z.bytes ∷ []) d) tt
    (from-small e b out) (reply-word w r (from_call e b out).reply q (ap (λ (z : Result). z.reply) d))

pub to-answers : (s out t : List ℕ) (w : ℕ) (r : Reply) → w ≡ word_of (end_of_image r) → record { reply = r; bytes = t } ≡ to_call s out
    → Answers (ImageToBcd s out) w (s ∷ t ∷ [])
to-answers s out t w r q d =
    answers (ImageToBcd s out) w (s ∷ t ∷ []) (end_of_image (to_call s out).reply) (refl, ap (λ (z : Result). s ∷ z.bytes ∷ []) d) tt
    (to-small s out) (reply-word w r (to_call s out).reply q (ap (λ (z : Result). z.reply) d))
