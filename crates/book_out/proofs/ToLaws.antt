-- The call's refusals. Assumes nothing.
use mathlib.Core.Path.{◌≡◌, refl, sym, ap, ap₂, ◌∙◌}
use mathlib.Core.Bool.{Bool, true, false, ◌&&◌}
use mathlib.Core.List.{List}
use Prim.Native.Nat.{ℕ, ◌*◌, ◌≤◌, ◌<◌}
use native.Mathlib.Omega.{arith}
use lib.ListN.{length}
use borrow.Author.Tests.{le-leb, lt-leb}
use Rattle.lists.specs.Counts.{within}
use Rattle.answers.specs.Image.{Verdict, fails, given, holds, refused, told}
use Rattle.answers.specs.Number.{number}
use Rattle.answers.specs.declared.refusal.Refusal.{Refusal}
use Rattle.answers.specs.declared.refusal.Refusal.TheVariants.{Buffer, FourDigits}
use Rattle.std.specs.Prelude.{Ok, Err}
use Rattle.lists.specs.Lists.{pick, splice}
use Rattle.lists.proofs.Tests.{right}
use Rattle.image.specs.Calls.{past, put, result_of, unwritten}
use Rattle.image.specs.Check.{accepted, check}
use Rattle.image.specs.Read.{list_of}
use Rattle.image.proofs.CallLaws.{put_refused}
use Rattle.image.proofs.CheckLaws.{check-holds}
use Rattle.image_put.proofs.Writing.{splice_front}
use Rattle.book.specs.Book.{book_of, four_digits}
use Rattle.book.proofs.BookLaws.{length-book}
use Rattle.book_out.specs.ToBook.{book_put, to_call}

-- ---- the tests, one after another
pub to-fails : (s out : List ℕ) (k : Refusal) → check s ≡ fails (number k) → result_of (Err k) out ≡ to_call s out
unfolding to_call past unwritten told
to-fails s out k h = rw h

pub to-past : (s out : List ℕ) → accepted s ≡ true → book_put (list_of s) out ≡ to_call s out
unfolding to_call past
to-past s out a = rw (check-holds s a)

pub book-15 : (xs out : List ℕ) → four_digits xs ≡ false → result_of (Err FourDigits) out ≡ book_put xs out
unfolding book_put pick unwritten told
book-15 xs out h = rw h

pub book-4 : (xs out : List ℕ) (n : ℕ) → four_digits xs ≡ true → n ≡ 2 * length xs → length out < n → result_of (Err Buffer) out ≡ book_put xs out
unfolding book_put put pick unwritten told
book-4 xs out n h q l = rw (h, lt-leb (length (book_of xs)) (length out) (omega (arith, length-book xs)))

pub book-put : (xs out now : List ℕ) (n : ℕ) → four_digits xs ≡ true → n ≡ 2 * length xs → n ≤ length out → now ≡ splice out 0 (book_of xs)
    → result_of (Ok n) now ≡ book_put xs out
unfolding book_put put pick told
book-put xs out now n h q l e =
    rw (h, le-leb (length (book_of xs)) (length out) (omega (arith, length-book xs)))
    (ap₂ (λ (k : ℕ) (b : List ℕ). record { reply = given k; bytes = b }) (q ∙ sym (length-book xs)) (e ∙ splice_front out (book_of xs)))

-- ---- the check with a limit of four digits
pub four_is : (s : List ℕ) → (accepted s && within 9999 (list_of s)) ≡ true → four_digits (list_of s) ≡ true
unfolding four_digits within
four_is s e = right (accepted s) (within 9999 (list_of s)) e

-- an accepted image that does not pass
pub to-wide : (s out : List ℕ) → accepted s ≡ true → (accepted s && within 9999 (list_of s)) ≡ false → result_of (Err FourDigits) out ≡ to_call s out
unfolding four_digits within
to-wide s out a e = book-15 (list_of s) out (ap (λ (t : Bool). t && within 9999 (list_of s)) (sym a) ∙ e) ∙ to-past s out a

-- 'A refusal is its number alone; no byte changes.'
pub book-refused : (xs out : List ℕ) (k : ℕ) → (book_put xs out).reply ≡ refused k → (book_put xs out).bytes ≡ out
unfolding book_put pick unwritten
book-refused xs out k = go (four_digits xs)
  where
    go : (t : Bool) → (pick t (put out (book_of xs)) (unwritten out 15)).reply ≡ refused k → (pick t (put out (book_of xs)) (unwritten out 15)).bytes ≡ out
    go true q = put_refused out (book_of xs) k q
    go false q = refl

pub to-refused : (s out : List ℕ) (k : ℕ) → (to_call s out).reply ≡ refused k → (to_call s out).bytes ≡ out
unfolding to_call past unwritten
to-refused s out k = go (check s)
  where
    go : (v : Verdict) → (past v out (book_put (list_of s) out)).reply ≡ refused k → (past v out (book_put (list_of s) out)).bytes ≡ out
    go (holds n t) q = book-refused (list_of s) out k q
    go (fails j) q = refl
