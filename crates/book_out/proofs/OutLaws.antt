-- The pages of an accepted image, one after another. Assumes nothing.
use mathlib.Core.Path.{◌≡◌, sym, ap, ap₂, ◌∙◌}
use mathlib.Core.Bool.{true}
use mathlib.Core.List.{List, ◌++◌}
use Prim.Native.Nat.{ℕ, ◌+◌, ◌-◌, ◌*◌, ◌^◌, ◌≤◌, ◌<◌, min}
use native.Mathlib.Omega.{arith}
use lib.ListN.{length, get_or, take, drop, length-take, length-drop}
use lib.Pow.{pow_mono}
use lib.Seq.{get_or-drop, get_or-take, length-take-le, take-add, take_all, take-append-le}
use Rattle.lists.specs.Counts.{within}
use Rattle.lists.proofs.CountLaws.{within-at, within-take}
use Rattle.lists.specs.Lists.{splice, tabulate, window}
use Rattle.lists.proofs.Parts.{length-splice, splice-nil, splice-then, take-smaller}
use Rattle.lists.proofs.Tables.{tabulate-ext, tabulate-get_d, take-tabulate}
use Rattle.image.specs.Code.Head.{HeadOf}
use Rattle.image.specs.Image.{Limits, page}
use Rattle.image.specs.Read.{e_of, list_of, n_of, page_count_of}
use Rattle.image.specs.declared.head.Head.{Head}
use Rattle.image.specs.declared.opened.Accepted.{Accepted}
use Rattle.image.proofs.Accepted.{accepted-only, length-list}
use Rattle.image.proofs.PageLaws.{length-page, page-few, pages-cover, pages-tight}
use Rattle.book.specs.Book.{book_of, four_digits}
use Rattle.book.proofs.BookLaws.{book-append, length-book}

-- ---- a page of a list
-- its first counts, up to the list's end
tabulated : (k a : ℕ) (xs : List ℕ) → a + k ≤ length xs → tabulate k (λ j. get_or xs (a + j) 0) ≡ take k (drop a xs)
tabulated k a xs h =
    let ys : List ℕ = take k (drop a xs) in
    let n : length ys ≡ k = length-take-le k (drop a xs) (omega (arith, length-drop a xs)) in
    tabulate-ext k (λ j. get_or xs (a + j) 0) (λ j. get_or ys j 0) (λ j l. sym (get_or-take k (drop a xs) j 0 l ∙ get_or-drop a xs j 0))
    ∙ ap (λ (z : ℕ). tabulate z (λ j. get_or ys j 0)) (sym n) ∙ tabulate-get_d ys 0

pub page-take : (e p k : ℕ) (xs : List ℕ) → k ≤ 2 ^ e → 2 ^ e * p + k ≤ length xs → take k (page e xs p) ≡ take k (drop (2 ^ e * p) xs)
unfolding page window
page-take e p k xs l h = take-tabulate (2 ^ e) k (λ j. get_or xs (2 ^ e * p + j) 0) l ∙ tabulated k (2 ^ e * p) xs h

-- the front of an array that it was read into
pub read_take : (c d w : List ℕ) (k : ℕ) → d ≡ splice c 0 w → k ≤ length w → take k d ≡ take k w
unfolding splice
read_take c d w k q l = ap (take k) q ∙ take-append-le k w (drop (0 + length w) c) l

-- ---- four digits
-- some counts of a page of a list have no digit more
pub four-page : (e p k : ℕ) (xs : List ℕ) → four_digits xs ≡ true → four_digits (take k (page e xs p)) ≡ true
unfolding four_digits within
four-page e p k xs h = within-take 9999 k (page e xs p) (page-few 9999 e p xs (within-at 9999 xs h))

-- ---- the bytes
-- one page more: some of its counts, up to the list's end
pub page-more : (e p some : ℕ) (xs b r q : List ℕ) → 2 ^ e * p < length xs → some ≡ min (2 ^ e) (length xs - 2 ^ e * p) → 2 * length xs ≤ length b
    → r ≡ splice b 0 (book_of (take (2 ^ e * p) xs)) → q ≡ splice r (2 * (2 ^ e * p)) (book_of (take some (page e xs p)))
    → q ≡ splice b 0 (book_of (take (2 ^ e * (p + 1)) xs))
page-more e p some xs b r q l es room er eq =
    let m : ℕ = 2 ^ e in
    let x : List ℕ = book_of (take (m * p) xs) in
    let y : List ℕ = book_of (take some (page e xs p)) in
    let n : length x ≡ 2 * (m * p) = length-book (take (m * p) xs) ∙ ap (λ (k : ℕ). 2 * k) (length-take-le (m * p) xs (omega arith)) in
    let o : length y ≡ 2 * some = length-book (take some (page e xs p)) ∙ ap (λ (k : ℕ). 2 * k) (length-take-le some (page e xs p) (omega (arith, length-page e xs p))) in
    let w : x ++ y ≡ book_of (take (m * (p + 1)) xs) =
    ap (λ (z : List ℕ). x ++ book_of z) (page-take e p some xs (omega arith) (omega arith)) ∙ sym (book-append (take (m * p) xs) (take some (drop (m * p) xs)))
    ∙ ap book_of (sym (take-add (m * p) some xs) ∙ take-smaller xs (m * (p + 1)) (m * p + some) (omega arith)) in
    splice-then b r q x y 0 (2 * (m * p)) er eq (omega arith) (omega arith) ∙ ap (splice b 0) w

pub none-put : (e : ℕ) (xs b : List ℕ) → b ≡ splice b 0 (book_of (take (2 ^ e * 0) xs))
unfolding book_of
none-put e xs b = sym (splice-nil b 0) ∙ ap (λ (k : ℕ). splice b 0 (book_of (take k xs))) {x = 0} {y = 2 ^ e * 0} (omega arith)

pub all-put : (e k : ℕ) (xs b r : List ℕ) → length xs ≤ 2 ^ e * k → r ≡ splice b 0 (book_of (take (2 ^ e * k) xs)) → r ≡ splice b 0 (book_of xs)
all-put e k xs b r l q = q ∙ ap (λ (z : List ℕ). splice b 0 (book_of z)) (take_all (2 ^ e * k) xs l)

-- how long the book stays
pub put-long : (k : ℕ) (xs b r : List ℕ) → 2 * length xs ≤ length b → r ≡ splice b 0 (book_of (take k xs)) → length r ≡ length b
put-long k xs b r h q = ap length q ∙ length-splice b 0 (book_of (take k xs)) (omega (arith, length-book (take k xs), length-take k xs))

-- ---- in the numbers that the code has
pub record Sizes (s : List ℕ) (h : Head) (m : ℕ) : Type 0 where
  pub size_is : m ≡ 2 ^ e_of s
  pub size-most : m ≤ 256
  pub hours-are : h.hours ≡ length (list_of s)
  pub cover : length (list_of s) ≤ 2 ^ e_of s * h.pages
  pub inside : (p : ℕ) → p < h.pages → m * p < length (list_of s)

pub sizes : (image : Accepted) (m : ℕ) → m ≡ 2 ^ image.head.e → Sizes image.bytes.now image.head m
unfolding page_count_of
sizes image m q =
    let s : List ℕ = image.bytes.now in
    let o : HeadOf s image.head = image.head_of in
    let l : Limits (e_of s) (list_of s) = (accepted-only s image.accepted).limits in
    let z : m ≡ 2 ^ e_of s = q ∙ ap (λ (k : ℕ). 2 ^ k) o.e-is in
    record {
      size_is = z;
      size-most = omega (arith, pow_mono {i = e_of s} {j = 8} l.e-high);
      hours-are = o.hours-is ∙ sym (length-list s);
      cover = rw (o.pages-are, length-list s) (pages-cover (e_of s) (n_of s));
      inside = λ p k. rw (z, length-list s) (pages-tight (e_of s) (n_of s) p (omega (arith, k, o.pages-are)));
    }

-- page p was read into an array d, which was c
module _ {s : List ℕ} {h : Head} {m : ℕ} (z : Sizes s h m) (p : ℕ) (c d : List ℕ) (e : d ≡ splice c 0 (page (e_of s) (list_of s) p)) where
  abbrev xs : List ℕ
  xs = list_of s

  long-page : length (page (e_of s) xs p) ≡ m
  long-page = length-page (e_of s) xs p ∙ sym z.size_is

  pub read-four : (k : ℕ) → k ≤ m → four_digits xs ≡ true → four_digits (take k d) ≡ true
  read-four k l f =
      ap four_digits (read_take c d (page (e_of s) xs p) k e (omega (arith, long-page))) ∙ four-page (e_of s) p k xs f

  pub read_more : (some : ℕ) (b r q : List ℕ) → p < h.pages → some ≡ min m (h.hours - m * p) → 2 * n_of s ≤ length b
      → r ≡ splice b 0 (book_of (take (2 ^ e_of s * p) xs)) → q ≡ splice r (2 * (m * p)) (book_of (take some d))
      → q ≡ splice b 0 (book_of (take (2 ^ e_of s * (p + 1)) xs))
  read_more some b r q l es room er eq =
      let i : 2 ^ e_of s * p < length xs = rw z.size_is at (z.inside p l) in
      let w : take some d ≡ take some (page (e_of s) xs p) = read_take c d (page (e_of s) xs p) some e (omega (arith, long-page)) in
      page-more (e_of s) p some xs b r q i (es ∙ ap₂ (λ (u v : ℕ). min u (v - u * p)) z.size_is z.hours-are)
      (omega (arith, length-list s)) er (eq ∙ ap₂ (λ (u : ℕ) (v : List ℕ). splice r (2 * (u * p)) (book_of v)) z.size_is w)
