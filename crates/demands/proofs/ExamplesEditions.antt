-- Both editions of the image by examples, in the numbers of document 02, note 8: totals on both sides of 4,294,967,295 and of 2^40 - 1, images of
-- edition 2 byte by byte, each field of its header at its borders, and a count above 4,294,967,295 on the walk and off it. Forms as in
-- `ExamplesImage`. Assumes nothing.
use mathlib.Core.List.{List, [], ◌∷◌, ◌++◌}
use mathlib.Core.Path.{◌≡◌, refl, ap}
use Prim.Native.Nat.{ℕ, ◌+◌}
use native.Mathlib.Omega.{arith}
use lib.ListN.{drop, length, replicate, set, take}
use borrow.Author.Tests.{leb-true}
use Rattle.lists.specs.Lists.{sum}
use Rattle.lists.proofs.CountLaws.{within-at}
use Rattle.answers.specs.Image.{Verdict, fails}
use Rattle.image.specs.Check.{check}
use Rattle.image.specs.Image.{Limits, image, max_total}
use Rattle.words.specs.End.{end_of_check}
use Rattle.words.specs.Words.{word_of}
use Rattle.hourlog_c.specs.Public.{ImageBusiest, ImageCheck, ImageCount, ImageLength, ImageMatch, ImageReach, ImageReading, ImageToBcd}
use Rattle.hourlog_c.specs.Public.{ImageWrite}
use Rattle.demands.specs.Demand2.{page_start, tree_start}
use Rattle.demands.proofs.Sentences2.{Counts, check-written, is-accepted}
use Rattle.demands.proofs.ExampleForms.{Asking, Leaves, ◌gives◌, asking, ended, expected, hex, holding, hours, leaves, none, refused, stretch}
use Rattle.demands.proofs.ExampleSearches.{Is, Reaching, busiest, busiest-fails, match-fails, matched, reach-5, reach-8, reaching, unmatched}
use Rattle.demands.proofs.Computing.{the-book, the-image, the-runs, the-words}

-- ---- 'Edition 2 has a 24-byte header: byte 0 is 2, bytes 1 to 7 as before, 8-15 S, 16-19 L, 20-23 zero. The writer uses it only when S is above
-- 4,294,967,295'
-- e = 2: 4,294,967,295 coins in one hour, and one coin more in the next
abbrev pub last : List ℕ
last = hex "01 02 00 00 01 00 00 00 FF FF FF FF 80 00 00 00 00 00 00 00 FF FF FF FF FF FF FF FF FF FF FF FF 00 00 00 00"

abbrev least_list : List ℕ
least_list = 4294967295 ∷ 1 ∷ []

abbrev pub least : List ℕ
least =
    hex "02 02 00 00 02 00 00 00 00 00 00 00 01 00 00 00 82 00 00 00 00 00 00 00 00 00 00 00"
    ++ hex "80 00 00 00 40 00 00 00 1F FF FF FF E0 00 00 00 00"

-- two pages: S is 0x0506070809, L is 0x010D, page 1 starts at bit 0x89; fields and roots of 35 bits
abbrev tickets_list : List ℕ
tickets_list = replicate 5 4294967295 ++ 101124110 ∷ []

abbrev tickets : List ℕ
tickets =
    hex "02 02 00 00 06 00 00 00 09 08 07 06 05 00 00 00 0D 01 00 00 00 00 00 00 00 00 00 00 89 00 00 00"
    ++ hex "7F FF FF FF 8F FF FF FF F3 FF FF FF FD FF FF FF FE 50 60 70 80 98 30 38 40 6B FF FF FF FC 00 00 00 00"

abbrev blank : ℕ → List ℕ
blank n = replicate n 0xFF

pub writes :
    Leaves (ImageWrite (4294967295 ∷ []) 2 (blank 36)) 36 ((4294967295 ∷ []) ∷ last ∷ [])
    × Leaves (ImageWrite least_list 2 (blank 45)) 45 (least_list ∷ least ∷ [])
    × Leaves (ImageWrite least_list 2 (blank 47)) 45 (least_list ∷ (least ++ blank 2) ∷ [])
    × Leaves (ImageWrite tickets_list 2 (blank 66)) 66 (tickets_list ∷ tickets ∷ [])
unfolding the-image
writes = (leaves refl, leaves refl, leaves refl, leaves refl)

-- where page 1 of the last one stands among the bits of all its bytes, and its tree: behind 32 bytes and 137 bits of code, and its root
pub addresses : (page_start 2 tickets_list 1 ≡ 256 + 137) × (tree_start 2 tickets_list 1 ≡ 256 + 137 + 35)
unfolding the-image
addresses = (refl, refl)

-- 'refusal 3 for images starts above 2^40 - 1': 257 hours of so many coins, and one coin more. 1 comes before it, 4 behind
abbrev pub most_list : List ℕ
most_list = replicate 256 4294967295 ++ 255 ∷ []

abbrev over_list : List ℕ
over_list = replicate 256 4294967295 ++ 256 ∷ []

pub write-borders :
    Asking
    (ImageLength least_list 2 gives 45
    ∷ ImageLength least_list 3 gives 60
    ∷ ImageLength most_list 8 gives 1251
    ∷ ImageLength over_list 8 gives refused 3
    ∷ ImageLength over_list 9 gives refused 1
    ∷ ImageWrite least_list 2 (blank 44) gives refused 4
    ∷ ImageWrite most_list 8 [] gives refused 4
    ∷ ImageWrite over_list 8 [] gives refused 3
    ∷ ImageWrite over_list 9 [] gives refused 1
    ∷ [])
unfolding the-image
write-borders = asking refl

-- ---- 'Fields, roots, reserves, asked figures and answers of an image are to carry totals up to 2^40 - 1; counts keep their width'
pub answered :
    Asking
    (ImageCheck last gives holding 1 4294967295
    ∷ ImageCount last 0 gives 4294967295
    ∷ ImageReading last 1 gives 4294967295
    ∷ ImageCheck least gives holding 2 4294967296
    ∷ ImageCount least 0 gives 4294967295
    ∷ ImageCount least 1 gives 1
    ∷ ImageCount least 2 gives refused 7
    ∷ ImageReading least 1 gives 4294967295
    ∷ ImageReading least 2 gives 4294967296
    ∷ ImageReading least 3 gives refused 7
    ∷ ImageCheck tickets gives holding 6 21575960585
    ∷ ImageCount tickets 4 gives 4294967295
    ∷ ImageCount tickets 5 gives 101124110
    ∷ ImageReading tickets 4 gives 17179869180
    ∷ ImageReading tickets 6 gives 21575960585
    ∷ [])
unfolding the-image
answered = asking refl

-- reach, and of document 02 busiest, match and books, whose counts above 9999 are refused 15
accepted-so : Is least least_list × Is tickets tickets_list
unfolding the-image
accepted-so = (record { accepts = refl; says = refl }, record { accepts = refl; says = refl })

pub reaches :
    Reaching least (0 gives 0 ∷ 4294967295 gives 1 ∷ 4294967296 gives 2 ∷ 4294967297 gives refused 8 ∷ [])
    × Reaching tickets (4294967296 gives 2 ∷ 17179869180 gives 4 ∷ 17179869181 gives 5 ∷ 21575960585 gives 6 ∷ 21575960586 gives refused 8 ∷ [])
unfolding the-image
reaches = (reaching accepted-so.0 refl, reaching accepted-so.1 refl)

pub runs :
    Leaves (ImageBusiest least 2) (stretch 0 4294967296) (least ∷ [])
    × Leaves (ImageBusiest tickets 5) (stretch 0 21474836475) (tickets ∷ [])
    × Leaves (ImageMatch least 4294967296) (hours 0 2) (least ∷ [])
    × Leaves (ImageMatch tickets 4396091405) (hours 4 2) (tickets ∷ [])
    × Leaves (ImageMatch tickets 4294967296) none (tickets ∷ [])
unfolding the-runs
runs = (
  busiest 0 4294967296 accepted-so.0 refl refl refl,
  busiest 0 21474836475 accepted-so.1 refl refl refl,
  matched 0 2 accepted-so.0 refl refl refl,
  matched 4 2 accepted-so.1 refl refl refl,
  unmatched accepted-so.1 refl refl refl,
)

pub no-book : Asking (ImageToBcd last [] gives refused 15 ∷ ImageToBcd least [] gives refused 15 ∷ [])
unfolding the-book
no-book = asking refl

-- the image of 2^40 - 1 coins, which is too long to print: its header, and its answers
abbrev pub most : List ℕ
most = image 8 most_list

limits : Limits 8 most_list
unfolding the-image
limits = record {
  e-low = omega arith;
  e-high = omega arith;
  hours = leb-true (length most_list) 65536 refl;
  total = leb-true (sum most_list) max_total refl;
}

counts : Counts most_list
unfolding the-image
counts = within-at 4294967295 most_list refl

pub most-so : Is most most_list
most-so = let w = is-accepted most 8 most_list limits counts refl in record { accepts = w.0; says = w.1 }

pub header-of-most : take 24 most ≡ hex "02 08 00 00 01 01 00 00 FF FF FF FF FF 00 00 00 17 26 00 00 00 00 00 00"
unfolding the-image
header-of-most = refl

pub check-of-most : Leaves (ImageCheck most) (holding 257 1099511627775) (most ∷ [])
unfolding the-words ended
check-of-most = leaves (ap (λ (v : Verdict). expected (word_of (end_of_check v)) (most ∷ [])) (check-written 8 most_list limits counts))

pub asked-of-most :
    Asking
    (ImageCount most 0 gives 4294967295
    ∷ ImageCount most 256 gives 255
    ∷ ImageReading most 256 gives 1099511627520
    ∷ ImageReading most 257 gives 1099511627775
    ∷ [])
    × Reaching most (1099511627520 gives 256 ∷ 1099511627775 gives 257 ∷ 1099511627776 gives refused 8 ∷ [])
unfolding the-image
asked-of-most = (asking refl, reaching most-so refl)

pub runs-of-most :
    Leaves (ImageBusiest most 257) (stretch 0 1099511627775) (most ∷ []) × Leaves (ImageMatch most 1099511627775) (hours 0 257) (most ∷ [])
unfolding the-runs
runs-of-most = (busiest 0 1099511627775 most-so refl refl refl, matched 0 257 most-so refl refl refl)

-- ---- 5: 'Edition 2 under 24 bytes, or with S not from 2^32 to 2^40 - 1', or with 20-23 not zero; before 7. What is left is 6, for the body
-- the image of 2^32 coins with another byte at place k, and with another S
abbrev but : ℕ → ℕ → List ℕ
but k v = set least k v

abbrev with_total : List ℕ → List ℕ
with_total s = take 8 least ++ (s ++ drop 16 least)

-- and a header of edition 2 alone, of no hour and no code
abbrev bare : List ℕ
bare = hex "02 02 00 00 00 00 00 00 00 00 00 00 01 00 00 00 00 00 00 00 00 00 00 00"

pub wrong-header :
    Asking
    (ImageCheck (but 0 1) gives refused 5
    ∷ ImageCheck (but 0 3) gives refused 5
    ∷ ImageCheck (but 1 9) gives refused 5
    ∷ ImageCheck (but 2 1) gives refused 5
    ∷ ImageCheck (but 3 1) gives refused 5
    ∷ ImageCheck (with_total (hex "FF FF FF FF 00 00 00 00")) gives refused 5
    ∷ ImageCheck (with_total (hex "01 00 00 00 01 00 00 00")) gives refused 6
    ∷ ImageCheck (with_total (hex "FF FF FF FF FF 00 00 00")) gives refused 6
    ∷ ImageCheck (with_total (hex "00 00 00 00 00 01 00 00")) gives refused 5
    ∷ ImageCheck (with_total (hex "00 00 00 00 01 00 00 01")) gives refused 5
    ∷ ImageCheck (but 16 0x81) gives refused 6
    ∷ ImageCheck (but 16 0x80) gives refused 5
    ∷ ImageCheck (but 19 1) gives refused 5
    ∷ ImageCheck (but 20 1) gives refused 5
    ∷ ImageCheck (but 21 1) gives refused 5
    ∷ ImageCheck (but 22 1) gives refused 5
    ∷ ImageCheck (but 23 1) gives refused 5
    ∷ ImageCheck (take 44 least) gives refused 5
    ∷ ImageCheck (least ++ 0 ∷ []) gives refused 5
    ∷ ImageCheck (take 16 bare) gives refused 5
    ∷ ImageCheck (take 23 bare) gives refused 5
    ∷ ImageCheck bare gives refused 6
    ∷ ImageReading bare 0 gives 0
    ∷ ImageReading bare 1 gives refused 7
    ∷ ImageCount (but 23 1) 2 gives refused 5
    ∷ ImageReading (but 23 1) 3 gives refused 5
    ∷ [])
unfolding the-image
wrong-header = asking refl

-- ---- 6: 'For count and reading, a walk that ends at a count above 4,294,967,295 is damage, refusal 6; they test no other hour's count'. Of the
-- counts 3, 2^32 and 7, which no list has, the reading at 2 walks to the second, the reading at 3 past it
abbrev heavy : List ℕ
heavy =
    hex "02 02 00 00 03 00 00 00 0A 00 00 00 01 00 00 00 82 00 00 00 00 00 00 00 00 00 00 00"
    ++ hex "80 00 00 05 40 00 00 00 C0 00 00 00 7C 00 00 00 00"

pub too-high :
    Asking
    (ImageCount heavy 0 gives 3
    ∷ ImageCount heavy 1 gives refused 6
    ∷ ImageCount heavy 2 gives 7
    ∷ ImageCount heavy 3 gives refused 7
    ∷ ImageReading heavy 1 gives 3
    ∷ ImageReading heavy 2 gives refused 6
    ∷ ImageReading heavy 3 gives 4294967306
    ∷ ImageCheck heavy gives refused 6
    ∷ [])
unfolding the-image
too-high = asking refl

fails-so : check heavy ≡ fails 6
unfolding the-image
fails-so = refl

pub no-runs : Leaves (ImageBusiest heavy 1) (refused 6) (heavy ∷ []) × Leaves (ImageMatch heavy 3) (refused 6) (heavy ∷ [])
unfolding the-words
no-runs = (busiest-fails 6 fails-so refl, match-fails 6 fails-so refl)

-- reach: 5 before 8, and 8 before 6
pub reach-refusals :
    Leaves (ImageReach (but 23 1) 4294967297) (refused 5) (but 23 1 ∷ []) × Leaves (ImageReach heavy 4294967307) (refused 8) (heavy ∷ [])
unfolding the-image
reach-refusals = (reach-5 refl refl, reach-8 refl refl refl)
