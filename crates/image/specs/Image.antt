-- Document 01, 'The frozen image': the writer's bytes of a list. Assumes nothing.
use Rattle.std.specs.Prelude.{Bool, true, false, ◌≡◌, List, ◌∷◌, ◌++◌, ℕ, suc, ◌+◌, ◌-◌, ◌*◌, ◌/◌, ◌^◌, ◌≤◌, length, get_or, ltb}
use Rattle.lists.specs.Counts.{max_count}
use Rattle.lists.specs.Lists.{tabulate, concat, sum, fill, reading, window}
use Rattle.bits.specs.Bits.{field}
use Rattle.bits.specs.Pack.{pack}
use Rattle.bits.specs.Numbers.{little}
use Rattle.reserve.specs.Reserve.{digits}
use Rattle.tree.specs.Tree.{tree}

-- ---- the limits
-- 'N at most 65,536'
abbrev pub max_hours : ℕ
max_hours = 65536

-- document 02, Note 8: 'totals up to 2^40 - 1'
abbrev pub max_total : ℕ
max_total = 1099511627775

-- the largest total of edition 1
abbrev pub narrow_total : ℕ
narrow_total = 4294967295

-- ---- the two editions, and all in which they differ. 'The writer uses' edition 2 'only when S is above 4,294,967,295'
unfoldable pub wide : ℕ → Bool
wide s = ltb narrow_total s

-- byte 0
abbrev pub edition : Bool → ℕ
edition false = 1
edition true = 2

-- 'Header, 16 bytes'; 'a 24-byte header'
abbrev pub header_length : Bool → ℕ
header_length false = 16
header_length true = 24

-- '8-11 total S'; '8-15 S'
abbrev pub total_width : Bool → ℕ
total_width false = 4
total_width true = 8

-- '12-15 L'; '16-19 L'
abbrev pub bits_place : Bool → ℕ
bits_place false = 12
bits_place true = 16

-- behind L: nothing; '20-23 zero'
abbrev pub zero_bytes : Bool → ℕ
zero_bytes false = 0
zero_bytes true = 4

-- ---- where the parts stand, behind the header of an edition
-- 'Per page, 4 bytes: its start bit': the byte where page p's stands
abbrev pub table_at : Bool → ℕ → ℕ
table_at b p = header_length b + 4 * p

-- where the code of k pages starts among the bits of all the bytes, behind the header and the table
abbrev pub code_start : Bool → ℕ → ℕ
code_start b k = 8 * table_at b k

-- ---- the parts
-- 'Page size 2^e': how many pages n counts have
unfoldable pub pages : ℕ → ℕ → ℕ
pages e n = (n + (2 ^ e - 1)) / 2 ^ e

-- the counts of page p; 'the last is filled with zero counts'
unfoldable pub page : ℕ → List ℕ → ℕ → List ℕ
page e xs p = window xs (2 ^ e * p) (2 ^ e)

-- page p's 'cumulative sum (this page included)'
unfoldable pub root : ℕ → List ℕ → ℕ → ℕ
root e xs p = reading xs (2 ^ e * suc p)

-- 'Let r be the binary digits of S. A page is r bits of cumulative sum (this page included), then its tree'
unfoldable pub page_code : ℕ → List ℕ → ℕ → List ℕ
page_code e xs p = field (digits (sum xs)) (root e xs p) ++ tree e (page e xs p)

-- 'Pages follow each other without a gap': the first p of them
abbrev pub first_pages : ℕ → List ℕ → ℕ → List ℕ
first_pages e xs p = concat (tabulate p (page_code e xs))

-- the code of all pages
unfoldable pub code : ℕ → List ℕ → List ℕ
code e xs = first_pages e xs (pages e (length xs))

-- page p's start bit, counted from the first bit of code
unfoldable pub start : ℕ → List ℕ → ℕ → ℕ
start e xs p = length (first_pages e xs p)

-- the bytes that l bits take
unfoldable pub bytes_for : ℕ → ℕ
bytes_for l = (l + 7) / 8

-- bits as bytes, 'last byte filled with zeros'
unfoldable pub packed : List ℕ → List ℕ
packed bs = pack (bytes_for (length bs)) (fill (8 * bytes_for (length bs)) bs)

-- 'Header, 16 bytes: 0 is 1 (edition), 1 is e, 2-3 zero, 4-7 N, 8-11 total S, 12-15 L, the bits of code'; of edition 2 'byte 0 is 2, bytes 1
-- to 7 as before, 8-15 S, 16-19 L, 20-23 zero'
unfoldable pub header_in : Bool → ℕ → ℕ → ℕ → ℕ → List ℕ
header_in b e n s l = edition b ∷ e ∷ 0 ∷ 0 ∷ (little 4 n ++ (little (total_width b) s ++ (little 4 l ++ little (zero_bytes b) 0)))

unfoldable pub header : ℕ → ℕ → ℕ → ℕ → List ℕ
header e n s l = header_in (wide s) e n s l

-- 'Per page, 4 bytes: its start bit'
unfoldable pub table : ℕ → List ℕ → List ℕ
table e xs = concat (tabulate (pages e (length xs)) (λ p. little 4 (start e xs p)))

-- the image of a list: header, start bits, 'L bits of code, last byte filled with zeros'
unfoldable pub image : ℕ → List ℕ → List ℕ
image e xs = header e (length xs) (sum xs) (length (code e xs)) ++ (table e xs ++ packed (code e xs))

-- the byte length that the edition, N, e and L give
unfoldable pub size : Bool → ℕ → ℕ → ℕ → ℕ
size b e n l = table_at b (pages e n) + bytes_for l

-- a list that has an image: 'e from 2 to 8', 'N at most 65,536', the total at most 2^40 - 1
pub record Limits (e : ℕ) (xs : List ℕ) : Type 0 where
  pub e-low : 2 ≤ e
  pub e-high : e ≤ 8
  pub hours : length xs ≤ max_hours
  pub total : sum xs ≤ max_total

-- s is the image of the list of counts xs, pages of 2 ^ e
pub record IsImage (s : List ℕ) (e : ℕ) (xs : List ℕ) : Type 0 where
  pub limits : Limits e xs
  pub counts : (i : ℕ) → get_or xs i 0 ≤ max_count
  pub bytes : s ≡ image e xs
