-- Document 01, 'Where a call is turned down', and document 02's notes: why each call is turned down, its reasons in the order of the rows, as
-- facts. 'Where several fit, the earlier row wins'. Assumes nothing.
use Rattle.std.specs.Prelude.{List, [], ◌∷◌, ◌++◌, ◌⊎◌, ◌≡◌, ℕ, zero, suc, ◌+◌, ◌-◌, ◌*◌, ◌/◌, ◌%◌, ◌^◌, ◌≤◌, ◌<◌, length, get_or, take, drop, set}
use Rattle.lists.specs.Lists.{sum}
use Rattle.bits.specs.Bits.{bits}
use Rattle.reserve.specs.Reserve.{reserve}
use Rattle.tree.specs.Read.{left_at, left_of, right_at}
use Rattle.image.specs.Image.{IsImage, image}
use Rattle.image.specs.Read.{before_of, e_of, l_of, list_of, n_of, root_at, s_of, start_of, tree_at, width_of}
use Rattle.days.specs.Days.{ChangesWrong, day_end}
use Rattle.store.specs.Items.{Items}
use Rattle.store.specs.Plain.{Append, Call, Count, Day, Free, Insert, Plain, Reach, Reading, Set, Strike, need}
use Rattle.store.specs.Reading.{cells_of, hours_in, list_in, page_count_of, read}
use Rattle.image_merge.specs.Merge.{sums}
use Rattle.book.specs.Book.{list_of_book}
use Rattle.hourlog_c.specs.Public.{Fresh, Freeze, ImageBusiest, ImageCheck, ImageCount, ImageFromBcd, ImageLength, ImageMatch, ImageReach}
use Rattle.hourlog_c.specs.Public.{ImageMerge, ImageReading, ImageToBcd, ImageWrite, Live, PublicCall, Repair}

-- a refusal's number, and what is then the case
pub record Reason : Type 1 where
  pub number : ℕ
  pub fits : Type 0

infix 68 ◌when◌
abbrev pub ◌when◌ : ℕ → Type 0 → Reason
k when f = record { number = k; fits = f }

-- 'Where several fit, the earlier row wins': k is the number of the first that fits
abbrev pub Wins : ℕ → List Reason → Type 0
Wins k [] = ⊥
Wins k (r ∷ rs) = ((k ≡ r.number) × r.fits) ⊎ ((r.fits → ⊥) × Wins k rs)

-- and none does
abbrev pub NoneFits : List Reason → Type 0
NoneFits [] = Unit {0}
NoneFits (r ∷ rs) = (r.fits → ⊥) × NoneFits rs

-- ---- of a buffer for a store: not 'P, C or buffer length wrong'
pub record Sized (s : List ℕ) (P C : ℕ) : Type 0 where
  pub pages-low : 1 ≤ P
  pub pages-high : P ≤ 1024
  pub cells_low : 1 ≤ C
  pub cells-high : C ≤ 1800
  pub long : length s ≡ 16 + 6 * P + 32 * C

-- ---- of a store to be repaired and a list of n entries. Document 02, note 10: not 'a wrong store length, a header with byte 0, byte 1, bytes 10-11,
-- P, C or N out of document 01's rules, or a list buffer shorter than P entries'
pub record Repairable (s : List ℕ) (n : ℕ) : Type 0 where
  pub sized : Sized s (page_count_of s) (cells_of s)
  pub byte-0 : get_or s 0 0 ≡ 1
  pub byte-1 : get_or s 1 0 ≡ 0
  pub byte-10 : get_or s 10 0 ≡ 0
  pub byte-11 : get_or s 11 0 ≡ 0
  pub hours : hours_in s ≤ 64 * page_count_of s
  pub list : page_count_of s ≤ n

-- ---- of a store, and of the list that it holds
-- 'not sound', the clauses of document 01 not being all met
abbrev pub Unsound : List ℕ → Type 0
Unsound s = Items s → ⊥

-- '64P hours are logged'
abbrev pub Full : Plain → Type 0
Full L = 64 * L.pages ≤ length L.counts

-- the total 'above 4,294,967,295'
abbrev pub Over : List ℕ → Type 0
Over xs = 4294967295 < sum xs

-- 'need above C', of the new list
abbrev pub Short : Plain → List ℕ → Type 0
Short L ys = L.cells < need ys L.pages

-- ---- of an image
-- 'e outside 2 to 8'
abbrev pub NoPageSize : ℕ → Type 0
NoPageSize e = (e < 2) ⊎ (8 < e)

-- document 02, note 8: the total above an image's limit, 'refusal 3 for images starts above 2^40 - 1'
abbrev pub OverImage : List ℕ → Type 0
OverImage xs = 2 ^ 40 - 1 < sum xs

-- document 02, note 9: of two lists, 'if a count passes 4,294,967,295 or the total its limit'
abbrev pub OverSums : List ℕ → List ℕ → Type 0
OverSums xs ys = ((i : ℕ) × (4294967295 < get_or xs i 0 + get_or ys i 0)) ⊎ (2 ^ 40 - 1 < sum xs + sum ys)

-- an edition, and the bytes of its header: '0 is 1 (edition)'; 'Edition 2 has a 24-byte header: byte 0 is 2', '20-23 zero', and 'S not from 2^32 to
-- 2^40 - 1' is wrong
pub data Edition (s : List ℕ) : (bytes : ℕ) → Type 0 where
  first : get_or s 0 0 ≡ 1 → Edition s 16
  second : get_or s 0 0 ≡ 2 → 2 ^ 32 ≤ s_of s → s_of s ≤ 2 ^ 40 - 1 → ((k : ℕ) → 20 ≤ k → k ≤ 23 → get_or s k 0 ≡ 0) → Edition s 24

-- not 'under 16 bytes', or 'Edition 2 under 24 bytes'; 'edition, e, zero bytes or N wrong; byte length not the one N, e and L give'
pub record Header (s : List ℕ) : Type 0 where
  pub bytes : ℕ
  pub edition : Edition s bytes
  pub long : bytes ≤ length s
  pub e-low : 2 ≤ e_of s
  pub e-high : e_of s ≤ 8
  pub zero-2 : get_or s 2 0 ≡ 0
  pub zero-3 : get_or s 3 0 ≡ 0
  pub hours : n_of s ≤ 65536
  pub all-bytes : length s ≡ bytes + 4 * ((n_of s + (2 ^ e_of s - 1)) / 2 ^ e_of s) + (l_of s + 7) / 8

abbrev pub NoHeader : List ℕ → Type 0
NoHeader s = Header s → ⊥

-- 'check: not the writer's bytes', of no list and no page size
abbrev pub NoImage : List ℕ → Type 0
NoImage s = (e : ℕ) (xs : List ℕ) → IsImage s e xs → ⊥

-- 'a left sum above its node on the walk', or 'a walk that ends at a count above 4,294,967,295': of a tree of 2^h counts with sum s from bit a of b
-- on, on the way to count j
abbrev pub WalkDamage : (h s : ℕ) (b : List ℕ) (a j : ℕ) → Type 0
WalkDamage zero s b a j = 4294967295 < s
WalkDamage (suc h) s b a j =
    let l = left_of s b a in
    (s < l) ⊎ (((j < 2 ^ h) × WalkDamage h l b (left_at s a) j) ⊎ ((2 ^ h ≤ j) × WalkDamage h (s - l) b (right_at h s l a) (j - 2 ^ h)))

-- 'Damage there: either root or that tree passing L, a root above S, the page's root below the one before, a left sum above its node on the walk
-- to the hour', on the way to count j of page p; and that the walk ends at too high a count
pub data PageDamage (s : List ℕ) (p j : ℕ) : Type 0 where
  root-passing : l_of s < start_of s p + width_of s → PageDamage s p j
  before-passing : (q : ℕ) → p ≡ suc q → l_of s < start_of s q + width_of s → PageDamage s p j
  tree-passing : l_of s < start_of s p + width_of s + reserve (e_of s) (root_at s p - before_of s p) → PageDamage s p j
  root-above : s_of s < root_at s p → PageDamage s p j
  before_above : s_of s < before_of s p → PageDamage s p j
  below-before : root_at s p < before_of s p → PageDamage s p j
  walk-damage : WalkDamage (e_of s) (root_at s p - before_of s p) (bits s) (tree_at s p) j → PageDamage s p j

-- to hour i, pages having 2^e hours
abbrev pub Damage : List ℕ → ℕ → Type 0
Damage s i = PageDamage s (i / 2 ^ e_of s) (i % 2 ^ e_of s)

-- ---- of a book: 'of odd length or with a digit above 9', two digits a byte
abbrev pub NotDecimal : List ℕ → Type 0
NotDecimal b = (length b % 2 ≡ 1) ⊎ ((i : ℕ) × (i < length b) × ((9 < get_or b i 0 / 16) ⊎ (9 < get_or b i 0 % 16)))

-- 'an image with a count above 9999'
abbrev pub TooWide : List ℕ → Type 0
TooWide s = (i : ℕ) × (i < n_of s) × (9999 < get_or (list_of s) i 0)

-- ---- the rows
-- 'The plain list': 'Refusals are tried in the order written'
unfoldable pub plain_reasons : Call → Plain → List Reason
plain_reasons (Append v) L = 11 when Full L ∷ 3 when Over (L.counts ++ v ∷ []) ∷ 12 when Short L (L.counts ++ v ∷ []) ∷ []
plain_reasons (Set i v) L = 7 when (length L.counts ≤ i) ∷ 3 when Over (set L.counts i v) ∷ 12 when Short L (set L.counts i v) ∷ []
-- document 02, note 5: 'Refusals 10, 7, 11, 3 and 12 apply in that order', 'strike never meets 11 or 3'
plain_reasons (Insert i v) L =
    let ys = take i L.counts ++ (v ∷ drop i L.counts) in
    7 when (length L.counts < i) ∷ 11 when Full L ∷ 3 when Over ys ∷ 12 when Short L ys ∷ []
plain_reasons (Strike i) L = 7 when (length L.counts ≤ i) ∷ 12 when Short L (take i L.counts ++ drop (suc i) L.counts) ∷ []
plain_reasons (Count i) L = 7 when (length L.counts ≤ i) ∷ []
plain_reasons (Reading i) L = 7 when (length L.counts < i) ∷ []
plain_reasons (Reach p) L = 8 when (sum L.counts < p) ∷ []
-- note 4: '16, right after 10', '7 now stands for a day whose end is above N'
plain_reasons (Day d changes) L = 16 when ChangesWrong changes ∷ 7 when (length L.counts < day_end changes d) ∷ []
plain_reasons Free L = []

-- each call's row, its numbers in their order, so that row and table can be held against each other
unfoldable pub reasons : PublicCall → List Reason
reasons (Fresh s P C) = 9 when (Sized s P C → ⊥) ∷ []
-- 'store, every other live call and freeze'
reasons (Live c s) = 10 when Unsound s ∷ plain_reasons c (read s).plain
-- note 10: 'It never refuses with 10; its only refusal is 18'
reasons (Repair s b) = 18 when (Repairable s (length b) → ⊥) ∷ []
reasons (Freeze s e i) = 10 when Unsound s ∷ 1 when NoPageSize e ∷ 4 when (length i < length (image e (list_in s))) ∷ []
reasons (ImageLength xs e) = 1 when NoPageSize e ∷ 2 when (65536 < length xs) ∷ 3 when OverImage xs ∷ []
reasons (ImageWrite xs e i) =
    1 when NoPageSize e ∷ 2 when (65536 < length xs) ∷ 3 when OverImage xs ∷ 4 when (length i < length (image e xs)) ∷ []
reasons (ImageCheck i) = 5 when NoHeader i ∷ 6 when NoImage i ∷ []
reasons (ImageCount i k) = 5 when NoHeader i ∷ 7 when (n_of i ≤ k) ∷ 6 when Damage i k ∷ []
-- 'Reading at i > 0 walks to hour i-1'
reasons (ImageReading i k) = 5 when NoHeader i ∷ 7 when (n_of i < k) ∷ 6 when ((1 ≤ k) × Damage i (k - 1)) ∷ []
reasons (ImageReach i p) = 5 when NoHeader i ∷ 8 when (s_of i < p) ∷ 6 when NoImage i ∷ []
-- note 1: 'It refuses after 5 and 6 with 13 if k is 0 or above N'
reasons (ImageBusiest i k) = 5 when NoHeader i ∷ 6 when NoImage i ∷ 13 when ((k ≡ 0) ⊎ (n_of i < k)) ∷ []
-- note 3: 'with 14, after 1 and before 2', 'with 15, after 5 and 6 and before 4, which comes last here'; a book of two bytes an hour
reasons (ImageFromBcd b e i) =
    1 when NoPageSize e ∷ 14 when NotDecimal b ∷ 2 when (65536 < length b / 2) ∷ 4 when (length i < length (image e (list_of_book b))) ∷ []
reasons (ImageToBcd i b) = 5 when NoHeader i ∷ 6 when NoImage i ∷ 15 when TooWide i ∷ 4 when (length b < 2 * n_of i) ∷ []
-- note 7: 'It refuses with 17, after 5 and 6, a q of 0'
reasons (ImageMatch i q) = 5 when NoHeader i ∷ 6 when NoImage i ∷ 17 when (q ≡ 0) ∷ []
-- note 9: '1, then 5 and 6 of the first, the same of the second, then 3 if a count passes 4,294,967,295 or the total its limit, then 4'
reasons (ImageMerge f s e i) =
    1 when NoPageSize e ∷ 5 when NoHeader f ∷ 6 when NoImage f ∷ 5 when NoHeader s ∷ 6 when NoImage s ∷ 3 when OverSums (list_of f) (list_of s)
    ∷ 4 when (length i < length (image e (sums (list_of f) (list_of s)))) ∷ []
