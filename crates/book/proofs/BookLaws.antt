-- Book to list and list to book. Assumes nothing.
use mathlib.Core.Path.{◌≡◌, refl, ap, ap₂, ◌∙◌}
use mathlib.Core.Bool.{true, ◌&&◌}
use mathlib.Core.List.{List, [], ◌∷◌, ◌++◌, map}
use Prim.Native.Nat.{ℕ, zero, suc, ◌+◌, ◌*◌, ◌/◌, ◌%◌, ◌≤◌, ◌<◌}
use native.Mathlib.Omega.{arith}
use lib.ListN.{length, get_or}
use lib.Dec.{leb, eqb}
use borrow.Author.Tests.{eq-eqb, eqb-true, le-leb, leb-true}
use Rattle.lists.specs.Lists.{every, sum}
use Rattle.lists.proofs.Tests.{both, left, right}
use Rattle.book.specs.Book.{book_of, decimal, decimal_byte, four_digits, list_of_book, packed_byte, unpacked_byte}

-- ---- a byte
pub record Digits (b : ℕ) : Type 0 where
  pub high : b / 16 ≤ 9
  pub low : b % 16 ≤ 9

pub digits_of : (b : ℕ) → decimal_byte b ≡ true → Digits b
unfolding decimal_byte
digits_of b h = record { high = leb-true (b / 16) 9 (left (leb (b / 16) 9) (leb (b % 16) 9) h); low = leb-true (b % 16) 9 (right (leb (b / 16) 9) (leb (b % 16) 9) h) }

packed-digits : (n : ℕ) → n ≤ 99 → decimal_byte (packed_byte n) ≡ true
unfolding decimal_byte
packed-digits n l =
    let q : packed_byte n / 16 ≡ n / 10 = omega arith in
    let r : packed_byte n % 16 ≡ n % 10 = omega arith in
    both (le-leb (packed_byte n / 16) 9 (omega arith)) (le-leb (packed_byte n % 16) 9 (omega arith))

unpack-packed : (n : ℕ) → n ≤ 99 → unpacked_byte (packed_byte n) ≡ n
unpack-packed n l =
    let q : packed_byte n / 16 ≡ n / 10 = omega arith in
    let r : packed_byte n % 16 ≡ n % 10 = omega arith in
    ap₂ (λ (y z : ℕ). 10 * y + z) q r ∙ omega arith

-- ---- a book from a list and back
pub list-book : (xs : List ℕ) → four_digits xs ≡ true → list_of_book (book_of xs) ≡ xs
unfolding list_of_book book_of four_digits every
list-book [] h = refl
list-book (x ∷ xs) h =
    let l : x ≤ 9999 = leb-true x 9999 (left (leb x 9999) (every (map (λ x. leb x 9999) xs)) h) in
    let q : 100 * (x / 100) + x % 100 ≡ x = omega arith in
    ap₂ ◌∷◌ (ap₂ (λ (y z : ℕ). 100 * y + z) (unpack-packed (x / 100) (omega arith)) (unpack-packed (x % 100) (omega arith)) ∙ q) (list-book xs (right (leb x 9999) (every (map (λ x. leb x 9999) xs)) h))

-- ---- how long they are
pub length-book : (xs : List ℕ) → length (book_of xs) ≡ 2 * length xs
unfolding book_of
length-book [] = refl
length-book (x ∷ xs) = let r = length-book xs in omega arith

pub length-listed : (b : List ℕ) → length (list_of_book b) ≡ length b / 2
unfolding list_of_book
length-listed [] = refl
length-listed (a ∷ []) = refl
length-listed (a ∷ c ∷ rest) = let r = length-listed rest in omega arith

-- ---- a list from a book and back
book-two : (a c : ℕ) → Digits a → Digits c
    → (packed_byte ((100 * unpacked_byte a + unpacked_byte c) / 100) ≡ a) × (packed_byte ((100 * unpacked_byte a + unpacked_byte c) % 100) ≡ c)
book-two a c g h =
    let q : (100 * unpacked_byte a + unpacked_byte c) / 100 ≡ unpacked_byte a = omega (arith, g.high, g.low, h.high, h.low) in
    let r : (100 * unpacked_byte a + unpacked_byte c) % 100 ≡ unpacked_byte c = omega (arith, g.high, g.low, h.high, h.low) in
    (ap packed_byte q ∙ omega (arith, g.high, g.low), ap packed_byte r ∙ omega (arith, h.high, h.low))

book-pairs : (b : List ℕ) → length b % 2 ≡ 0 → every (map decimal_byte b) ≡ true → book_of (list_of_book b) ≡ b
unfolding list_of_book book_of every
book-pairs [] n h = refl
book-pairs (a ∷ []) n h = absurd (omega arith)
book-pairs (a ∷ c ∷ rest) n h =
    let t = right (decimal_byte a) (decimal_byte c && every (map decimal_byte rest)) h in
    let g = digits_of a (left (decimal_byte a) (decimal_byte c && every (map decimal_byte rest)) h) in
    let k = digits_of c (left (decimal_byte c) (every (map decimal_byte rest)) t) in
    let m : length rest % 2 ≡ 0 = omega arith in
    let w = book-two a c g k in
    ap₂ ◌∷◌ w.0 (ap₂ ◌∷◌ w.1 (book-pairs rest m (right (decimal_byte c) (every (map decimal_byte rest)) t)))

pub book-list : (b : List ℕ) → decimal b ≡ true → book_of (list_of_book b) ≡ b
unfolding decimal
book-list b h =
    book-pairs b (eqb-true (length b % 2) 0 (left (eqb (length b % 2) 0) (every (map decimal_byte b)) h))
    (right (eqb (length b % 2) 0) (every (map decimal_byte b)) h)

-- ---- a book of a list is decimal, a list of a book has four digits
digits-book : (xs : List ℕ) → four_digits xs ≡ true → every (map decimal_byte (book_of xs)) ≡ true
unfolding book_of four_digits every
digits-book [] h = refl
digits-book (x ∷ xs) h =
    let l : x ≤ 9999 = leb-true x 9999 (left (leb x 9999) (every (map (λ x. leb x 9999) xs)) h) in
    both (packed-digits (x / 100) (omega arith))
    (both (packed-digits (x % 100) (omega arith)) (digits-book xs (right (leb x 9999) (every (map (λ x. leb x 9999) xs)) h)))

pub decimal-book : (xs : List ℕ) → four_digits xs ≡ true → decimal (book_of xs) ≡ true
unfolding decimal
decimal-book xs h = both (eq-eqb (length (book_of xs) % 2) 0 (omega (arith, length-book xs))) (digits-book xs h)

four-pairs : (b : List ℕ) → every (map decimal_byte b) ≡ true → four_digits (list_of_book b) ≡ true
unfolding list_of_book four_digits every
four-pairs [] h = refl
four-pairs (a ∷ []) h = refl
four-pairs (a ∷ c ∷ rest) h =
    let t = right (decimal_byte a) (decimal_byte c && every (map decimal_byte rest)) h in
    let g = digits_of a (left (decimal_byte a) (decimal_byte c && every (map decimal_byte rest)) h) in
    let k = digits_of c (left (decimal_byte c) (every (map decimal_byte rest)) t) in
    both (le-leb (100 * unpacked_byte a + unpacked_byte c) 9999 (omega (arith, g.high, g.low, k.high, k.low)))
    (four-pairs rest (right (decimal_byte c) (every (map decimal_byte rest)) t))

pub four-list : (b : List ℕ) → decimal b ≡ true → four_digits (list_of_book b) ≡ true
unfolding decimal
four-list b h = four-pairs b (right (eqb (length b % 2) 0) (every (map decimal_byte b)) h)

-- ---- the total of so many such hours
pub sum-four : (xs : List ℕ) → four_digits xs ≡ true → sum xs ≤ 9999 * length xs
unfolding four_digits every sum
sum-four [] h = omega arith
sum-four (x ∷ xs) h =
    let l : x ≤ 9999 = leb-true x 9999 (left (leb x 9999) (every (map (λ x. leb x 9999) xs)) h) in
    let r = sum-four xs (right (leb x 9999) (every (map (λ x. leb x 9999) xs)) h) in
    omega arith

-- ---- hour i of a book
pub hour-in : (b : List ℕ) (i : ℕ) → 2 * i + 1 < length b
    → get_or (list_of_book b) i 0 ≡ 100 * unpacked_byte (get_or b (2 * i) 0) + unpacked_byte (get_or b (2 * i + 1) 0)
unfolding list_of_book
hour-in [] i l = absurd (omega arith)
hour-in (a ∷ []) i l = absurd (omega arith)
hour-in (a ∷ c ∷ rest) zero l = refl
hour-in (a ∷ c ∷ rest) (suc i) l =
    let s : List ℕ = a ∷ c ∷ rest in
    let m : 2 * i + 1 < length rest = omega arith in
    let y : suc (suc (2 * i)) ≡ 2 * suc i = omega arith in
    let z : suc (suc (2 * i + 1)) ≡ 2 * suc i + 1 = omega arith in
    hour-in rest i m ∙ ap₂ (λ (j k : ℕ). 100 * unpacked_byte (get_or s j 0) + unpacked_byte (get_or s k 0)) y z

-- ---- four digits hold each count
pub four-at : (xs : List ℕ) → four_digits xs ≡ true → (i : ℕ) → get_or xs i 0 ≤ 9999
unfolding four_digits every
four-at [] h i = omega arith
four-at (x ∷ xs) h zero = leb-true x 9999 (left (leb x 9999) (every (map (λ x. leb x 9999) xs)) h)
four-at (x ∷ xs) h (suc i) = four-at xs (right (leb x 9999) (every (map (λ x. leb x 9999) xs)) h) i

-- ---- a book in two parts
pub book-append : (xs ys : List ℕ) → book_of (xs ++ ys) ≡ book_of xs ++ book_of ys
unfolding book_of
book-append [] ys = refl
book-append (x ∷ xs) ys = ap (λ (z : List ℕ). packed_byte (x / 100) ∷ packed_byte (x % 100) ∷ z) (book-append xs ys)
