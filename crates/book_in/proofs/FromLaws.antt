-- The call's refusals. Assumes nothing.
use mathlib.Core.Path.{◌≡◌, refl}
use mathlib.Core.Bool.{Bool, true, false, ◌&&◌}
use mathlib.Core.List.{List}
use Prim.Native.Nat.{ℕ, ◌≤◌, ◌<◌}
use native.Mathlib.Omega.{arith}
use lib.ListN.{length}
use lib.Dec.{leb}
use borrow.Author.Tests.{le-leb, leb-true, lt-leb}
use Rattle.answers.specs.Image.{given, refused, told}
use Rattle.answers.specs.declared.refusal.Refusal.TheVariants.{Book, PageSize}
use Rattle.std.specs.Prelude.{Err}
use Rattle.lists.specs.Lists.{pick, sum}
use Rattle.image.specs.Calls.{length_call, Result, result_of, unwritten, write_call}
use Rattle.image.specs.Image.{image, max_total}
use Rattle.image.proofs.CallLaws.{write-refused}
use Rattle.book.specs.Book.{decimal, list_of_book}
use Rattle.book.proofs.BookLaws.{four-list, sum-four}
use Rattle.book_in.specs.FromBook.{from_call}

-- ---- the tests, one after another
pub from-e-low : (e : ℕ) (b out : List ℕ) → e < 2 → result_of (Err PageSize) out ≡ from_call e b out
unfolding from_call pick unwritten told
from-e-low e b out l = rw (lt-leb 2 e l)

pub from-e-high : (e : ℕ) (b out : List ℕ) → 2 ≤ e → 8 < e → result_of (Err PageSize) out ≡ from_call e b out
unfolding from_call pick unwritten told
from-e-high e b out k l = rw (le-leb 2 e k, lt-leb e 8 l)

pub from-14 : (e : ℕ) (b out : List ℕ) → 2 ≤ e → e ≤ 8 → decimal b ≡ false → result_of (Err Book) out ≡ from_call e b out
unfolding from_call pick unwritten told
from-14 e b out k l h = rw (le-leb 2 e k, le-leb e 8 l, h)

pub from_list : (e : ℕ) (b out : List ℕ) → 2 ≤ e → e ≤ 8 → decimal b ≡ true → write_call e (list_of_book b) out ≡ from_call e b out
unfolding from_call pick
from_list e b out k l h = rw (le-leb 2 e k, le-leb e 8 l, h)

-- 3 never comes: past 1 and 14 only a list that is too long is refused before the buffer
pub only-long : (e : ℕ) (b : List ℕ) → 2 ≤ e → e ≤ 8 → decimal b ≡ true
    → length_call e (list_of_book b) ≡ pick (leb (length (list_of_book b)) 65536) (given (length (image e (list_of_book b)))) (refused 2)
unfolding length_call pick
only-long e b k l h = rw (le-leb 2 e k, le-leb e 8 l) (go (leb (length xs) 65536) refl)
  where
    xs : List ℕ
    xs = list_of_book b

    go : (t : Bool) → leb (length xs) 65536 ≡ t
        → pick t (pick (leb (sum xs) max_total) (given (length (image e xs))) (refused 3)) (refused 2) ≡ pick t (given (length (image e xs))) (refused 2)
    go true q = rw (le-leb (sum xs) max_total (omega (arith, sum-four xs (four-list b h), leb-true (length xs) 65536 q)))
    go false q = refl

-- 'A refusal is its number alone; no byte changes.'
pub from-refused : (e : ℕ) (b out : List ℕ) (k : ℕ) → (from_call e b out).reply ≡ refused k → (from_call e b out).bytes ≡ out
unfolding from_call pick unwritten
from-refused e b out k = go (leb 2 e && leb e 8) (decimal b)
  where
    W : Result
    W = write_call e (list_of_book b) out

    go : (t u : Bool) → (pick t (pick u W (unwritten out 14)) (unwritten out 1)).reply ≡ refused k
        → (pick t (pick u W (unwritten out 14)) (unwritten out 1)).bytes ≡ out
    go true true q = write-refused e (list_of_book b) out k q
    go true false q = refl
    go false u q = refl
