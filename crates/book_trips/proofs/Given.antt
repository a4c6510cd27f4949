-- What a call that was not refused gave, and when it is not refused. Assumes nothing.
use mathlib.Core.Path.{◌≡◌, refl, sym, ap, ◌∙◌, subst}
use mathlib.Core.Bool.{Bool, true, false, ◌&&◌}
use mathlib.Core.List.{List, ◌++◌}
use Prim.Native.Nat.{ℕ, ◌≤◌}
use native.Mathlib.Omega.{arith}
use lib.ListN.{length, drop, take}
use lib.Dec.{leb}
use lib.Seq.{take_at}
use borrow.Author.Tests.{le-leb}
use Rattle.answers.specs.Image.{Reply, Verdict, fails, given, holds, refused}
use Rattle.lists.specs.Lists.{pick}
use Rattle.image.specs.Calls.{Result, length_call, past, put, put_after, unwritten, write_call}
use Rattle.image.specs.Check.{accepted, check}
use Rattle.image.specs.Image.{Limits, image}
use Rattle.image.specs.Read.{list_of}
use Rattle.image.proofs.CallLaws.{length-only, write-put}
use Rattle.image.proofs.CheckLaws.{check-held}
use Rattle.book.specs.Book.{book_of, decimal, four_digits, list_of_book}
use Rattle.book_in.specs.FromBook.{from_call}
use Rattle.book_in.proofs.FromLaws.{from_list}
use Rattle.book_out.specs.ToBook.{book_put, to_call}
use Rattle.book_out.proofs.ToLaws.{to-past}
use Rattle.book_trips.specs.RoundTrips.{Gave}

-- ---- a refusal gives nothing
never : (k n : ℕ) → refused k ≡ given n → ⊥
never k n e = let z : ◌≡◌ {A = ℕ} 0 1 = cc in omega arith

same_number : (m n : ℕ) → given m ≡ given n → m ≡ n
same_number m n e = cc

nothing : (out s : List ℕ) (k : ℕ) → Gave (unwritten out k) s → ⊥
unfolding unwritten
nothing out s k g = never k (length s) g.answer

-- ---- bytes put into a buffer
put-gave : (out i s : List ℕ) → Gave (put out i) s → s ≡ i
unfolding put pick
put-gave out i s = go (leb (length i) (length out))
  where
    go : (t : Bool) → Gave (pick t (record { reply = given (length i); bytes = i ++ drop (length i) out }) (unwritten out 4)) s → s ≡ i
    go true g = sym g.bytes ∙ take_at i (drop (length i) out) (length s) (same_number (length i) (length s) g.answer)
    go false g = absurd (nothing out s 4 g)

put-gives : (out i : List ℕ) → length i ≤ length out → Gave (put out i) i
unfolding put pick
put-gives out i l =
    rw (le-leb (length i) (length out) l) (record { answer = refl; bytes = take_at i (drop (length i) out) (length i) refl })

-- ---- from a book
pub record Over (e : ℕ) (b s : List ℕ) : Type 0 where
  pub is-decimal : decimal b ≡ true
  pub limits : Limits e (list_of_book b)
  pub image-is : s ≡ image e (list_of_book b)

write-gave : (e : ℕ) (xs out s : List ℕ) → Gave (write_call e xs out) s → Limits e xs × (s ≡ image e xs)
unfolding write_call put_after
write-gave e xs out s = go (length_call e xs) refl
  where
    go : (r : Reply) → length_call e xs ≡ r → Gave (put_after r out (image e xs)) s → Limits e xs × (s ≡ image e xs)
    go (given n) q g = (length-only e xs n q, put-gave out (image e xs) s g)
    go (refused k) q g = absurd (nothing out s k g)

pub from-gave : (e : ℕ) (b out s : List ℕ) → Gave (from_call e b out) s → Over e b s
unfolding from_call pick
from-gave e b out s = go (leb 2 e && leb e 8) (decimal b) refl
  where
    go : (t u : Bool) → decimal b ≡ u → Gave (pick t (pick u (write_call e (list_of_book b) out) (unwritten out 14)) (unwritten out 1)) s → Over e b s
    go true true q g =
        let w = write-gave e (list_of_book b) out s g in
        record { is-decimal = q; limits = w.0; image-is = w.1 }
    go true false q g = absurd (nothing out s 14 g)
    go false u q g = absurd (nothing out s 1 g)

pub from_gives : (e : ℕ) (b out : List ℕ) → decimal b ≡ true → Limits e (list_of_book b) → length (image e (list_of_book b)) ≤ length out
    → Gave (from_call e b out) (image e (list_of_book b))
from_gives e b out d m l =
    let i : List ℕ = image e (list_of_book b) in
    subst (λ (w : Result). Gave w i) (sym (write-put e (list_of_book b) out m l) ∙ from_list e b out m.e-low m.e-high d)
    (record { answer = refl; bytes = take_at i (drop (length i) out) (length i) refl })

-- ---- from an image
pub record Back (s b : List ℕ) : Type 0 where
  pub is-accepted : accepted s ≡ true
  pub four : four_digits (list_of s) ≡ true
  pub book-is : b ≡ book_of (list_of s)

book-gave : (xs out b : List ℕ) → Gave (book_put xs out) b → (four_digits xs ≡ true) × (b ≡ book_of xs)
unfolding book_put pick
book-gave xs out b = go (four_digits xs) refl
  where
    go : (t : Bool) → four_digits xs ≡ t → Gave (pick t (put out (book_of xs)) (unwritten out 15)) b → (four_digits xs ≡ true) × (b ≡ book_of xs)
    go true q g = (q, put-gave out (book_of xs) b g)
    go false q g = absurd (nothing out b 15 g)

pub to-gave : (s out b : List ℕ) → Gave (to_call s out) b → Back s b
unfolding to_call past
to-gave s out b = go (check s) refl
  where
    go : (v : Verdict) → check s ≡ v → Gave (past v out (book_put (list_of s) out)) b → Back s b
    go (holds n t) q g =
        let w = book-gave (list_of s) out b g in
        record { is-accepted = check-held s n t q; four = w.0; book-is = w.1 }
    go (fails k) q g = absurd (nothing out b k g)

book-gives : (xs out : List ℕ) → four_digits xs ≡ true → length (book_of xs) ≤ length out → Gave (book_put xs out) (book_of xs)
unfolding book_put pick
book-gives xs out f l = rw f (put-gives out (book_of xs) l)

pub to-gives : (s out : List ℕ) → accepted s ≡ true → four_digits (list_of s) ≡ true → length (book_of (list_of s)) ≤ length out
    → Gave (to_call s out) (book_of (list_of s))
to-gives s out a f l = subst (λ (w : Result). Gave w (book_of (list_of s))) (to-past s out a) (book-gives (list_of s) out f l)

-- ---- the number that a call answers, and its buffer afterwards
gave-first : (w : Result) (i o : List ℕ) (n : ℕ) → Gave w i → w.reply ≡ given n → o ≡ w.bytes → Gave w (take n o)
gave-first w i o n g q r =
    let m : n ≡ length i = same_number n (length i) (sym q ∙ g.answer) in
    let z : take n o ≡ i = ap (take n) r ∙ ap (λ (k : ℕ). take k w.bytes) m ∙ g.bytes in
    subst (Gave w) (sym z) g

put-does : (out i : List ℕ) (n : ℕ) → (put out i).reply ≡ given n → Gave (put out i) i
unfolding put pick unwritten
put-does out i n = go (leb (length i) (length out))
  where
    done : Result
    done = record { reply = given (length i); bytes = i ++ drop (length i) out }

    go : (t : Bool) → (pick t done (unwritten out 4)).reply ≡ given n → Gave (pick t done (unwritten out 4)) i
    go true q = record { answer = refl; bytes = take_at i (drop (length i) out) (length i) refl }
    go false q = absurd (never 4 n q)

write-does : (e : ℕ) (xs out : List ℕ) (n : ℕ) → (write_call e xs out).reply ≡ given n → Gave (write_call e xs out) (image e xs)
unfolding write_call put_after unwritten
write-does e xs out n = go (length_call e xs)
  where
    go : (r : Reply) → (put_after r out (image e xs)).reply ≡ given n → Gave (put_after r out (image e xs)) (image e xs)
    go (given m) q = put-does out (image e xs) n q
    go (refused k) q = absurd (never k n q)

from-does : (e : ℕ) (b out : List ℕ) (n : ℕ) → (from_call e b out).reply ≡ given n → Gave (from_call e b out) (image e (list_of_book b))
unfolding from_call pick unwritten
from-does e b out n = go (leb 2 e && leb e 8) (decimal b)
  where
    W : Result
    W = write_call e (list_of_book b) out

    go : (t u : Bool) → (pick t (pick u W (unwritten out 14)) (unwritten out 1)).reply ≡ given n
        → Gave (pick t (pick u W (unwritten out 14)) (unwritten out 1)) (image e (list_of_book b))
    go true true q = write-does e (list_of_book b) out n q
    go true false q = absurd (never 14 n q)
    go false u q = absurd (never 1 n q)

pub from-long : (e : ℕ) (b out o : List ℕ) (n : ℕ) → (from_call e b out).reply ≡ given n → o ≡ (from_call e b out).bytes → Gave (from_call e b out) (take n o)
from-long e b out o n q r = gave-first (from_call e b out) (image e (list_of_book b)) o n (from-does e b out n q) q r

book-does : (xs out : List ℕ) (n : ℕ) → (book_put xs out).reply ≡ given n → Gave (book_put xs out) (book_of xs)
unfolding book_put pick unwritten
book-does xs out n = go (four_digits xs)
  where
    go : (t : Bool) → (pick t (put out (book_of xs)) (unwritten out 15)).reply ≡ given n → Gave (pick t (put out (book_of xs)) (unwritten out 15)) (book_of xs)
    go true q = put-does out (book_of xs) n q
    go false q = absurd (never 15 n q)

to-does : (s out : List ℕ) (n : ℕ) → (to_call s out).reply ≡ given n → Gave (to_call s out) (book_of (list_of s))
unfolding to_call past unwritten
to-does s out n = go (check s)
  where
    go : (v : Verdict) → (past v out (book_put (list_of s) out)).reply ≡ given n → Gave (past v out (book_put (list_of s) out)) (book_of (list_of s))
    go (holds m t) q = book-does (list_of s) out n q
    go (fails k) q = absurd (never k n q)

pub to-long : (s out o : List ℕ) (n : ℕ) → (to_call s out).reply ≡ given n → o ≡ (to_call s out).bytes → Gave (to_call s out) (take n o)
to-long s out o n q r = gave-first (to_call s out) (book_of (list_of s)) o n (to-does s out n q) q r
