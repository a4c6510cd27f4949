-- Words, numbers and trees by examples, in the numbers of documents 01 and 02: what each call is lent, the words that C gets, stored numbers byte by
-- byte, the reserve, and the tree code bit by bit. Assumes nothing.
use mathlib.Core.List.{List, [], ◌∷◌, ◌++◌, map}
use mathlib.Core.Path.{◌≡◌, refl}
use Prim.Native.Nat.{ℕ}
use lib.ListN.{replicate}
use Rattle.bits.specs.Numbers.{little, number}
use Rattle.reserve.specs.Reserve.{digits, reserve}
use Rattle.tree.specs.Ranges.{Side, end, left, node, right}
use Rattle.tree.specs.Tree.{tree}
use Rattle.store.specs.Plain.{Append, Count, Day, Free, Insert, Reach, Reading, Set, Strike}
use Rattle.words.specs.End.{no_such_run, refusal, the_cells, the_hours, the_number, the_run, the_sums}
use Rattle.words.specs.ReadBack.{busiest_first, busiest_sum, checked_hours, checked_total, matched_first, matched_hours, returned, taken}
use Rattle.words.specs.Words.{word_of}
use Rattle.hourlog_c.specs.Public.{Fresh, Freeze, ImageBusiest, ImageCheck, ImageCount, ImageFromBcd, ImageLength, ImageMatch, ImageReach}
use Rattle.hourlog_c.specs.Public.{ImageMerge, ImageReading, ImageToBcd, ImageWrite, Live, Repair, lent}
use Rattle.demands.proofs.ExampleForms.{binary, hex}
use Rattle.demands.proofs.Computing.{the_code, the-words}

-- ---- the 23 calls, and what each is lent, to read or to change: a store s, an image i, a list of numbers xs, a book b, changed days d
pub what-is-lent : (s i xs b d : List ℕ)
    → map lent
    (Fresh s 1 1
    ∷ Live (Append 1) s
    ∷ Live (Set 0 1) s
    ∷ Live (Insert 0 1) s
    ∷ Live (Strike 0) s
    ∷ Live (Count 0) s
    ∷ Live (Reading 0) s
    ∷ Live (Reach 0) s
    ∷ Live (Day 0 d) s
    ∷ Live Free s
    ∷ Repair s xs
    ∷ Freeze s 2 i
    ∷ ImageLength xs 2
    ∷ ImageWrite xs 2 i
    ∷ ImageCheck i
    ∷ ImageCount i 0
    ∷ ImageReading i 0
    ∷ ImageReach i 0
    ∷ ImageBusiest i 1
    ∷ ImageFromBcd b 2 i
    ∷ ImageToBcd i b
    ∷ ImageMatch i 1
    ∷ ImageMerge i b 2 xs
    ∷ [])
    ≡ (s ∷ [])
    ∷ (s ∷ [])
    ∷ (s ∷ [])
    ∷ (s ∷ [])
    ∷ (s ∷ [])
    ∷ (s ∷ [])
    ∷ (s ∷ [])
    ∷ (s ∷ [])
    ∷ (s ∷ d ∷ [])
    ∷ (s ∷ [])
    ∷ (s ∷ xs ∷ [])
    ∷ (s ∷ i ∷ [])
    ∷ (xs ∷ [])
    ∷ (xs ∷ i ∷ [])
    ∷ (i ∷ [])
    ∷ (i ∷ [])
    ∷ (i ∷ [])
    ∷ (i ∷ [])
    ∷ (i ∷ [])
    ∷ (b ∷ i ∷ [])
    ∷ (i ∷ b ∷ [])
    ∷ (i ∷ [])
    ∷ (i ∷ b ∷ xs ∷ [])
    ∷ []
what-is-lent s i xs b d = refl

-- ---- the words of C: a number; taken + returned·2^16; S + N·2^40; a run's sum + its first hour·2^40; its first hour + its hours·2^32; 0 for
-- none; 2^64 - k for a refusal
pub in-digits :
    map word_of
    (the_number 4294967295
    ∷ the_cells 2 3
    ∷ the_cells 0 8
    ∷ the_sums 5 8
    ∷ the_sums 65536 4294967295
    ∷ the_sums 65536 1099511627775
    ∷ the_run 4 5
    ∷ the_run 65535 4294967295
    ∷ the_run 65535 1099511627775
    ∷ the_hours 1 2
    ∷ the_hours 65535 65536
    ∷ no_such_run
    ∷ refusal 1
    ∷ refusal 17
    ∷ refusal 18
    ∷ [])
    ≡ 4294967295
    ∷ 196610
    ∷ 524288
    ∷ 5497558138888
    ∷ 72057598332895231
    ∷ 72058693549555711
    ∷ 4398046511109
    ∷ 72056498821267455
    ∷ 72057594037927935
    ∷ 8589934593
    ∷ 281474976776191
    ∷ 0
    ∷ 18446744073709551615
    ∷ 18446744073709551599
    ∷ 18446744073709551598
    ∷ []
unfolding the-words
in-digits = refl

-- and what C reads in them, by the functions of include/hourlog.h
pub read-in-c :
    ((taken 196610 ≡ 2) × (returned 196610 ≡ 3) × (taken 524288 ≡ 0) × (returned 524288 ≡ 8))
    × ((checked_hours 72057598332895231 ≡ 65536) × (checked_total 72057598332895231 ≡ 4294967295))
    × ((checked_hours 72058693549555711 ≡ 65536) × (checked_total 72058693549555711 ≡ 1099511627775))
    × ((busiest_first 72056498821267455 ≡ 65535) × (busiest_sum 72056498821267455 ≡ 4294967295))
    × ((busiest_first 72057594037927935 ≡ 65535) × (busiest_sum 72057594037927935 ≡ 1099511627775))
    × ((matched_first 281474976776191 ≡ 65535) × (matched_hours 281474976776191 ≡ 65536) × (matched_hours 0 ≡ 0))
read-in-c = ((refl, refl, refl, refl), (refl, refl), (refl, refl), (refl, refl), (refl, refl), (refl, refl, refl))

-- ---- 'Stored numbers of several bytes put the low byte first'
pub low-byte-first :
    (little 4 0x04030201 ≡ hex "01 02 03 04") × (little 2 0x0605 ≡ hex "05 06") × (number (hex "01 02 03 04") ≡ 67305985)
unfolding the_code
low-byte-first = (refl, refl, refl)

-- ---- 'Let t be the binary digits of s, 0 for s = 0'; 'R(2,1)=1, R(2,2)=2, R(4,3)=5, R(4,6)=8, R(8,5)=12, R(64,1)=6, R(64,31)=117,
-- R(64,32)=120, R(64,122)=240 (one cell), R(64,123)=241 (two), R(64,4294967295)=1820 (eight)', and '0 if s = 0'; a page of 256 counts of
-- 4,294,967,295 is the richest
pub reserves :
    (map digits (0 ∷ 1 ∷ 2 ∷ 3 ∷ 4 ∷ 7 ∷ 8 ∷ 255 ∷ 256 ∷ []) ≡ 0 ∷ 1 ∷ 2 ∷ 2 ∷ 3 ∷ 3 ∷ 4 ∷ 8 ∷ 9 ∷ [])
    × (map digits (4294967295 ∷ 4294967296 ∷ 1099511627775 ∷ []) ≡ 32 ∷ 33 ∷ 40 ∷ [])
    × (map (reserve 1) (0 ∷ 1 ∷ 2 ∷ []) ≡ 0 ∷ 1 ∷ 2 ∷ [])
    × (map (reserve 2) (0 ∷ 3 ∷ 6 ∷ []) ≡ 0 ∷ 5 ∷ 8 ∷ [])
    × (map (reserve 3) (0 ∷ 5 ∷ []) ≡ 0 ∷ 12 ∷ [])
    × (map (reserve 6) (0 ∷ 1 ∷ 31 ∷ 32 ∷ 122 ∷ 123 ∷ 4294967295 ∷ []) ≡ 0 ∷ 6 ∷ 117 ∷ 120 ∷ 240 ∷ 241 ∷ 1820 ∷ [])
    × (reserve 8 1099511627520 ≡ 8916)
unfolding the_code
reserves = (refl, refl, refl, refl, refl, refl, refl)

-- ---- 'the first t bits are the sum of the left half, high bit first. The left subtree starts at a + t; the right one starts where the left one's
-- reserve ends. Bits left over are 0'
-- Eight counts of sum 11: left 6 of 11; left 4 of 6, then 3 of 4 and 0 of 2; left 0 of 5, then 4 of 5; a bit left over there, and one at the root
abbrev eight : List ℕ
eight = 3 ∷ 1 ∷ 0 ∷ 2 ∷ 0 ∷ 0 ∷ 4 ∷ 1 ∷ []

-- 64 counts of sum 12: left 3 of 12; left 1 of 3, then 1 of 1 four times, and 2, 0, 2, 0 of 2; left 3 of 9, then 0, 3, 0, 3 of 3 and three bits left
-- over; 0 of 6 three times and 5 of 6; then bits left over, 2, 3, 3, 1 and 3
abbrev sixty_four : List ℕ
sixty_four = 1 ∷ replicate 20 0 ++ 2 ∷ replicate 20 0 ++ 3 ∷ replicate 19 0 ++ 5 ∷ 1 ∷ []

pub trees :
    (tree 2 (1 ∷ 0 ∷ 2 ∷ 0 ∷ []) ≡ binary "01110")
    × (tree 3 eight ≡ binary "0110 100 011 00 000 100 0 0")
    × (tree 6 sixty_four ≡ binary "0011 01 1 1 1 1 10 00 10 00 0011 00 11 00 11 000 000 000 000 101 00 000 000 0 000")
unfolding the_code
trees = (refl, refl, refl)

-- where the subtrees of the eight counts stand, if the tree starts at bit 100: the first bit of each, and the bit behind its range
abbrev range : List Side → List ℕ
range ds = (node ds 3 eight 100).first ∷ end (node ds 3 eight 100) ∷ []

pub ranges :
    map range
    ([]
    ∷ (left ∷ [])
    ∷ (right ∷ [])
    ∷ (left ∷ left ∷ [])
    ∷ (left ∷ right ∷ [])
    ∷ (right ∷ left ∷ [])
    ∷ (right ∷ right ∷ [])
    ∷ (right ∷ right ∷ left ∷ [])
    ∷ [])
    ≡ (100 ∷ 120 ∷ [])
    ∷ (104 ∷ 112 ∷ [])
    ∷ (112 ∷ 119 ∷ [])
    ∷ (107 ∷ 110 ∷ [])
    ∷ (110 ∷ 112 ∷ [])
    ∷ (115 ∷ 115 ∷ [])
    ∷ (115 ∷ 118 ∷ [])
    ∷ (118 ∷ 118 ∷ [])
    ∷ []
unfolding the_code
ranges = refl
