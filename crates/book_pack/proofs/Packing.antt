-- Counts put into a book, one after another. Assumes nothing.
use mathlib.Core.Path.{◌≡◌, sym, ap, ap₂, ◌∙◌}
use mathlib.Core.Bool.{true}
use mathlib.Core.List.{List, [], ◌∷◌}
use Prim.Native.Nat.{ℕ, ◌+◌, ◌*◌, ◌/◌, ◌%◌, ◌≤◌, ◌<◌}
use native.Mathlib.Numerals.{add-one}
use native.Mathlib.Omega.{arith}
use lib.ListN.{length, get_or, set, take}
use lib.Seq.{get_or-take, length-take-le, take-suc}
use Rattle.lists.specs.Lists.{splice}
use Rattle.lists.proofs.Parts.{sets-splice, splice-nil, splice-then}
use Rattle.book.specs.Book.{book_of, four_digits, packed_byte}
use Rattle.book.proofs.BookLaws.{book-append, four-at, length-book}

-- ---- each of the first n counts
pub narrow_at : (c : List ℕ) (n i : ℕ) → four_digits (take n c) ≡ true → i < n → get_or c i 0 ≤ 9999
narrow_at c n i h l = rw (get_or-take n c i 0 l) at (four-at (take n c) h i)

-- ---- one count
pub hour-two : (b : List ℕ) (at x y z : ℕ) → at + 1 < length b → y ≡ packed_byte (x / 100) → z ≡ packed_byte (x % 100)
    → set (set b at y) (at + 1) z ≡ splice b at (book_of (x ∷ []))
unfolding book_of
hour-two b at x y z l p q =
    ap₂ (λ (u v : ℕ). set (set b at u) (at + 1) v) p q
    ∙ ap (λ (k : ℕ). set (set b at (packed_byte (x / 100))) k (packed_byte (x % 100))) (add-one at)
    ∙ sets-splice (packed_byte (x / 100) ∷ packed_byte (x % 100) ∷ []) b at (omega arith)

-- ---- one count more
pub hour-more : (b m r c : List ℕ) (from i : ℕ) → i < length c → 2 * (from + i) + 1 < length b
    → m ≡ splice b (2 * from) (book_of (take i c)) → r ≡ splice m (2 * (from + i)) (book_of (get_or c i 0 ∷ []))
    → r ≡ splice b (2 * from) (book_of (take (i + 1) c))
hour-more b m r c from i l h em er =
    let x : List ℕ = book_of (take i c) in
    let n : length x ≡ 2 * i = length-book (take i c) ∙ ap (λ (k : ℕ). 2 * k) (length-take-le i c (omega arith)) in
    let o : length (book_of (get_or c i 0 ∷ [])) ≡ 2 = length-book (get_or c i 0 ∷ []) in
    splice-then b m r x (book_of (get_or c i 0 ∷ [])) (2 * from) (2 * (from + i)) em er (omega arith) (omega arith)
    ∙ ap (splice b (2 * from)) (sym (book-append (take i c) (get_or c i 0 ∷ [])) ∙ ap book_of (sym (take-suc c i 0 l) ∙ ap (λ (k : ℕ). take k c) (sym (add-one i))))

pub none-put : (b c : List ℕ) (from : ℕ) → b ≡ splice b (2 * from) (book_of (take 0 c))
unfolding book_of
none-put b c from = sym (splice-nil b (2 * from))
