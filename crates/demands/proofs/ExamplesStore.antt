-- A live store's bytes by examples, in the numbers of documents 01 and 02: fresh at its limits, document 01's session byte by byte, numbers above
-- 255, code that runs along two and eight cells, which cells pages take and give back, what is not sound, and freeze. `Leaves` says what C gets
-- and what is left of all that a call was lent; under `Asking` nothing of that changes (`ExampleForms`). Assumes nothing.
use mathlib.Core.Bool.{false, true}
use mathlib.Core.List.{List, [], ◌∷◌, ◌++◌, map}
use mathlib.Core.Path.{◌≡◌, refl}
use Prim.Native.Nat.{ℕ, ◌+◌}
use Prim.Native.String.{String}
use lib.ListN.{replicate, set, take}
use Rattle.lists.specs.Lists.{concat, fill, tabulate}
use Rattle.bits.specs.Numbers.{little, number}
use Rattle.store.specs.Layout.{Model, bytes_of, entry, header}
use Rattle.store.specs.OneCell.{give_cell, take_cell}
use Rattle.store.specs.Plain.{Append, Count, Day, Free, Insert, Reach, Reading, Set, Strike}
use Rattle.store.specs.Reading.{read}
use Rattle.store.specs.Settle.{settled_by_cells}
use Rattle.store.specs.Sound.{fine}
use Rattle.hourlog_c.specs.Public.{Fresh, Freeze, Live}
use Rattle.demands.proofs.ExampleForms.{Asking, Leaves, Session, Settles, Starting, ◌gives◌, asking, hex, leaves, of, refused, returned}
use Rattle.demands.proofs.ExampleForms.{session, settles, started, taken}
use Rattle.demands.proofs.Computing.{the-plain-list, the-store}

-- ---- fresh: 'pages P from 1 to 1,024; cells C from 1 to 1,800', 'Length is 16 + 6P + 32C bytes exactly', else 9: of P, C and the buffer's bytes
pub starts :
    Starting
    (of 1 1 54 gives 0
    ∷ of 1024 1800 63760 gives 0
    ∷ of 0 1 48 gives refused 9
    ∷ of 1025 1800 63766 gives refused 9
    ∷ of 1 0 22 gives refused 9
    ∷ of 1024 1801 63792 gives refused 9
    ∷ of 1 2 85 gives refused 9
    ∷ of 1 2 86 gives 0
    ∷ of 1 2 87 gives refused 9
    ∷ of 1 1 0 gives refused 9
    ∷ [])
unfolding the-store
starts = started refl

-- the smallest and the largest store are sound: what is asked of them is answered, and not refused 10
pub limits : Session 1 1 (Reading 0 gives 0 ∷ []) × Session 1024 1800 (Reading 0 gives 0 ∷ Count 0 gives refused 7 ∷ [])
unfolding the-plain-list
limits = (session refl refl, session refl refl)

-- ---- bytes: a store of one page and two cells, part by part. A cell's last bytes are zero where they are not shown
abbrev board : (header entry cell1 cell2 : String) → List ℕ
board h e c d = hex h ++ (hex e ++ (fill 32 (hex c) ++ fill 32 (hex d)))

-- 'A fresh store has N = 0, every page entry zero, and free chain 1, 2, .., C'
abbrev new : List ℕ
new = board "01 00 01 00 02 00 01 00 02 00 00 00 00 00 00 00" "00 00 00 00 00 00" "02 00" "00 00"

abbrev new_pages : List ℕ
new_pages =
    hex "01 00 02 00 03 00 01 00 03 00 00 00 00 00 00 00"
    ++ (replicate 12 0 ++ (fill 32 (hex "02 00") ++ (fill 32 (hex "03 00") ++ fill 32 (hex "00 00"))))

-- document 01's session goes on with `a 122`, `s 0 123` and `a 5`. 122 coins in hour 0: the left sum is 122, 1111010, six times
abbrev one_cell : List ℕ
one_cell = board "01 00 01 00 02 00 02 00 01 00 00 00 01 00 00 00" "7A 00 00 00 01 00" "00 00 F5 EB D7 AF 5E 80" "00 00"

abbrev two_cells : List ℕ
two_cells = board "01 00 01 00 02 00 00 00 00 00 00 00 01 00 00 00" "7B 00 00 00 01 00" "02 00 F7 EF DF BF 7E C0" "00 00"

-- 123 and 5 coins: of 128 the left sum is 128, 10000000, five times, and then 123, 01111011
abbrev two_hours : List ℕ
two_hours = board "01 00 01 00 02 00 00 00 00 00 00 00 02 00 00 00" "80 00 00 00 01 00" "02 00 80 80 80 80 80 7B" "00 00"

-- and `s 0 0`, which gives cell 2 back. 0 and 5 coins: of 5 the left sum is 5, 101, five times, and then 0
abbrev cell_back : List ℕ
cell_back = board "01 00 01 00 02 00 02 00 01 00 00 00 02 00 00 00" "05 00 00 00 01 00" "00 00 B6 DA" "00 00"

pub session-bytes :
    Leaves (Fresh (replicate 124 0xFF) 2 3) 0 (new_pages ∷ [])
    × Leaves (Fresh (replicate 86 0xFF) 1 2) 0 (new ∷ [])
    × Leaves (Live (Append 122) new) (taken 1) (one_cell ∷ [])
    × Leaves (Live (Set 0 123) one_cell) (taken 1) (two_cells ∷ [])
    × Leaves (Live (Append 5) two_cells) 0 (two_hours ∷ [])
    × Leaves (Live (Set 0 0) two_hours) (returned 1) (cell_back ∷ [])
unfolding the-store
session-bytes = (leaves refl, leaves refl, leaves refl, leaves refl, leaves refl, leaves refl)

-- ---- 'Stored numbers of several bytes put the low byte first': 0x04030201 and 0x0605; P, C, the first free cell, how many are free, N
pub low-byte-first :
    (little 4 0x04030201 ≡ hex "01 02 03 04")
    × (number (hex "01 02 03 04") ≡ 67305985)
    × (header
    (record {
      plain = record { pages = 0x0203; cells = 0x0605; counts = replicate 0x0258 0 };
      chains = [];
      spare = 0x0403 ∷ replicate 0x0302 0;
    })
    ≡ hex "01 00 03 02 05 06 03 04 03 03 00 00 58 02 00 00")
    × (entry
    (record { plain = record { pages = 1; cells = 0x0605; counts = 0x04030201 ∷ [] }; chains = (0x0605 ∷ []) ∷ []; spare = [] })
    0
    ≡ hex "01 02 03 04 05 06")
unfolding the-store
low-byte-first = (refl, refl, refl, refl)

-- ---- 'Its code runs along its chain': hour j of 50 has j coins, 447 bits in cells 3 and 1; cell 2 is free
abbrev rising : Model
rising = record { plain = record { pages = 1; cells = 3; counts = tabulate 50 (λ j. j) }; chains = (3 ∷ 1 ∷ []) ∷ []; spare = 2 ∷ [] }

abbrev rising_bytes : List ℕ
rising_bytes =
    hex "01 00 01 00 03 00 02 00 01 00 00 00 32 00 00 00"
    ++ (hex "C9 04 00 00 03 00"
    ++ (fill 32 (hex "00 00 21 90 50 22 49 48 99 4C A2 A1 52 CA C5 C3 0E 1C 2C")
    ++ (fill 32 (hex "00 00")
    ++ hex "01 00 3E 07 83 86 24 4A 30 26 45 0A 65 8E 00 4E 23 21 41 25 2A 2C 66 62 C3 47 2E 3C 00 04 F0 8E")))

-- two pages, in cells 2 and 3: 5 and 1 coins in hours 62 and 63, 7 in hour 64
abbrev two_pages : Model
two_pages = record {
  plain = record { pages = 2; cells = 3; counts = replicate 62 0 ++ 5 ∷ 1 ∷ 7 ∷ [] };
  chains = (2 ∷ []) ∷ (3 ∷ []) ∷ [];
  spare = 1 ∷ [];
}

abbrev two_pages_bytes : List ℕ
two_pages_bytes =
    hex "01 00 02 00 03 00 01 00 01 00 00 00 41 00 00 00"
    ++ (hex "06 00 00 00 02 00"
    ++ (hex "07 00 00 00 03 00"
    ++ (fill 32 (hex "00 00") ++ (fill 32 (hex "00 00 00 01 40") ++ fill 32 (hex "00 00 FF FF C0")))))

-- eight cells, which no page needs more than: 67,108,800 + j coins in hour j
abbrev eight_cells : Model
eight_cells = record {
  plain = record { pages = 1; cells = 8; counts = tabulate 64 (λ j. 67108800 + j) };
  chains = (1 ∷ 2 ∷ 3 ∷ 4 ∷ 5 ∷ 6 ∷ 7 ∷ 8 ∷ []) ∷ [];
  spare = [];
}

abbrev eight_cells_bytes : List ℕ
eight_cells_bytes =
    hex "01 00 01 00 08 00 00 00 00 00 00 00 40 00 00 00"
    ++ (hex "E0 F7 FF FF 01 00"
    ++ (hex "02 00 7F FF F9 F0 7F FF F8 F0 FF FF F0 E3 FF FF C1 9F FF FE 05 FF FF E0 3F FF FC 21 FF FF E2 5F"
    ++ (hex "03 00 FF FE 23 FF FF C6 07 FF FF 93 3F FF FC 8B FF FF C8 7F FF F9 43 FF FF CC BF FF FC C7 FF FF"
    ++ (hex "04 00 9C 03 FF FF D3 8F FF FF 46 7F FF FA 17 FF FF A0 FF FF F4 87 FF FF A9 7F FF FA 8F FF FF 58"
    ++ (hex "05 00 1F FF FE CC FF FF F6 2F FF FF 61 FF FF ED 0F FF FF 72 FF FF F7 1F FF FE F0 03 FF FF E7 87"
    ++ (hex "06 00 FF FF C7 1F FF FF 0C FF FF F8 2F FF FF 81 FF FF F1 0F FF FF 92 FF FF F9 1F FF FF 30 3F FF"
    ++ (hex "07 00 FE 99 FF FF F4 5F FF FF 43 FF FF EA 1F FF FF 65 FF FF F6 3F FF FE E0 1F FF FF 9C 7F FF FE"
    ++ (hex "08 00 33 FF FF F0 BF FF FF 07 FF FF E4 3F FF FF 4B FF FF F4 7F FF FE C0 FF FF FE 67 FF FF F1 7F"
    ++ hex "00 00 FF FF 0F FF FF E8 7F FF FF 97 FF FF F8 FF FF FF 80 00 00 00 00 00 00 00 00 00 00 00 00 00"))))))))

-- 300 hours, 0x012C, with a coin in the last: left 0, 1, 0, 1, 0, 0 of 1
abbrev many_hours : Model
many_hours = record {
  plain = record { pages = 5; cells = 1; counts = replicate 299 0 ++ 1 ∷ [] };
  chains = [] ∷ [] ∷ [] ∷ [] ∷ (1 ∷ []) ∷ [];
  spare = [];
}

abbrev many_hours_bytes : List ℕ
many_hours_bytes =
    hex "01 00 05 00 01 00 00 00 00 00 00 00 2C 01 00 00" ++ (replicate 24 0 ++ (hex "01 00 00 00 01 00" ++ fill 32 (hex "00 00 50")))

-- written and read
pub along-its-chain :
    ((bytes_of rising ≡ rising_bytes) × (read rising_bytes ≡ rising))
    × ((bytes_of two_pages ≡ two_pages_bytes) × (read two_pages_bytes ≡ two_pages))
    × ((bytes_of eight_cells ≡ eight_cells_bytes) × (read eight_cells_bytes ≡ eight_cells))
    × ((bytes_of many_hours ≡ many_hours_bytes) × (read many_hours_bytes ≡ many_hours))
unfolding the-store
along-its-chain = ((refl, refl), (refl, refl), (refl, refl), (refl, refl))

pub asked :
    Asking
    (Live (Count 49) rising_bytes gives 49
    ∷ Live (Reading 50) rising_bytes gives 1225
    ∷ Live (Reach 1177) rising_bytes gives 50
    ∷ Live (Day 1 []) rising_bytes gives 852
    ∷ Live (Day 1 (0 ∷ 25 ∷ [])) rising_bytes gives 876
    ∷ Live Free rising_bytes gives 1
    ∷ Live (Reading 64) two_pages_bytes gives 6
    ∷ Live (Reach 7) two_pages_bytes gives 65
    ∷ Live Free two_pages_bytes gives 1
    ∷ Live (Count 63) eight_cells_bytes gives 67108863
    ∷ Live Free eight_cells_bytes gives 0
    ∷ Live (Count 299) many_hours_bytes gives 1
    ∷ Live (Count 300) many_hours_bytes gives refused 7
    ∷ [])
unfolding the-store
asked = asking refl

-- ---- 'A page that grows takes cells from the front of the free chain, in that order, onto the end of its own. A page that shrinks gives its last
-- cell to the front of the free chain, then the one before it': page 0 from 1 to 353,686 coins, which need four cells, and back
abbrev small : Model
small = record { plain = record { pages = 2; cells = 6; counts = 1 ∷ [] }; chains = (4 ∷ []) ∷ [] ∷ []; spare = 2 ∷ 6 ∷ 1 ∷ 5 ∷ 3 ∷ [] }

abbrev large : Model
large = record {
  plain = record { pages = 2; cells = 6; counts = 1 ∷ 353685 ∷ [] };
  chains = (4 ∷ 2 ∷ 6 ∷ 1 ∷ []) ∷ [] ∷ [];
  spare = 5 ∷ 3 ∷ [];
}

abbrev small_again : Model
small_again = record { plain = record { pages = 2; cells = 6; counts = 1 ∷ 0 ∷ [] }; chains = (4 ∷ []) ∷ [] ∷ []; spare = 2 ∷ 6 ∷ 1 ∷ 5 ∷ 3 ∷ [] }

-- ---- document 02, note 5: 'First every page that shrinks gives back cells, lowest page first; then every page that grows takes cells in the same
-- order'. An hour is inserted before hour 0: 1,000 coins go from page 0 to page 1, and 20,000 from page 2 to page 3. Page 0 gives cell 2 back,
-- page 2 cells 4, 1 and 7, so that the free chain is 7, 1, 4, 2, 3, 6; then page 1 takes two of these, and page 3 three
abbrev asleep : List ℕ
asleep = 1 ∷ replicate 62 0 ++ 1000 ∷ replicate 127 0 ++ 20000 ∷ []

abbrev before_insert : Model
before_insert = record {
  plain = record { pages = 4; cells = 7; counts = asleep };
  chains = (5 ∷ 2 ∷ []) ∷ [] ∷ (7 ∷ 1 ∷ 4 ∷ []) ∷ [] ∷ [];
  spare = 3 ∷ 6 ∷ [];
}

abbrev behind_insert : Model
behind_insert = record {
  plain = record { pages = 4; cells = 7; counts = 0 ∷ asleep };
  chains = (5 ∷ []) ∷ (7 ∷ 1 ∷ []) ∷ [] ∷ (4 ∷ 2 ∷ 3 ∷ []) ∷ [];
  spare = 6 ∷ [];
}

-- and struck again: page 1 gives back 1 and 7, page 3 gives back 3, 2 and 4; page 0 takes 4, and page 2 takes 2, 3 and 7
abbrev behind_strike : Model
behind_strike = record {
  plain = record { pages = 4; cells = 7; counts = asleep };
  chains = (5 ∷ 4 ∷ []) ∷ [] ∷ (2 ∷ 3 ∷ 7 ∷ []) ∷ [] ∷ [];
  spare = 1 ∷ 6 ∷ [];
}

-- the calls on the bytes of these stores
pub chains-in-order :
    Settles (Append 353685) small (taken 3) large
    × Settles (Set 1 0) large (returned 3) small_again
    × Settles (Insert 0 0) before_insert (taken 1) behind_insert
    × Settles (Strike 0) behind_insert (returned 1) behind_strike
unfolding the-store
chains-in-order = (settles refl refl refl, settles refl refl refl, settles refl refl refl, settles refl refl refl)

-- the same one cell at a time
pub cell-by-cell :
    (((take_cell 0 small).spare ≡ 6 ∷ 1 ∷ 5 ∷ 3 ∷ []) × ((take_cell 0 small).chains ≡ (4 ∷ 2 ∷ []) ∷ [] ∷ []))
    × (((give_cell 0 large).spare ≡ 1 ∷ 5 ∷ 3 ∷ []) × ((give_cell 0 large).chains ≡ (4 ∷ 2 ∷ 6 ∷ []) ∷ [] ∷ []))
    × (settled_by_cells small large.plain ≡ large)
    × (settled_by_cells large small_again.plain ≡ small_again)
    × (settled_by_cells before_insert behind_insert.plain ≡ behind_insert)
    × (settled_by_cells behind_insert behind_strike.plain ≡ behind_strike)
unfolding the-store
cell-by-cell = ((refl, refl), (refl, refl), refl, refl, refl, refl)

-- ---- 'store, every other live call and freeze: 10, not sound': the store of 122 coins with one byte changed
abbrev but : ℕ → ℕ → List ℕ
but k v = set one_cell k v

pub unsound :
    Asking
    (Live Free one_cell gives 1
    -- the header: edition, byte 1, P, C, the first free cell, how many are free, bytes 10 and 11
    ∷ Live Free (but 0 2) gives refused 10
    ∷ Live Free (but 1 1) gives refused 10
    ∷ Live Free (but 2 2) gives refused 10
    ∷ Live Free (but 4 1) gives refused 10
    ∷ Live Free (but 6 1) gives refused 10
    ∷ Live Free (but 6 0) gives refused 10
    ∷ Live Free (but 8 0) gives refused 10
    ∷ Live Free (but 10 1) gives refused 10
    ∷ Live Free (but 11 1) gives refused 10
    -- N: 'Hours from N on are zero', 'N ≤ 64P'
    ∷ Live Free (but 12 0) gives refused 10
    ∷ Live Free (but 12 64) gives 1
    ∷ Live Free (but 12 65) gives refused 10
    -- the page's sum: one less than its code says, and one more, which needs a second cell. Its first cell: none, a free one, one that there is not
    ∷ Live Free (but 16 0x79) gives refused 10
    ∷ Live Free (but 16 0x7B) gives refused 10
    ∷ Live Free (but 20 0) gives refused 10
    ∷ Live Free (but 20 2) gives refused 10
    ∷ Live Free (but 20 3) gives refused 10
    -- cell 1: its next cell; a left sum above its node's; a bit left over
    ∷ Live Free (but 22 2) gives refused 10
    ∷ Live Free (but 24 0xF7) gives refused 10
    ∷ Live Free (but 53 1) gives refused 10
    -- the free cell: its next cell; 'Free cells hold 30 zero bytes'
    ∷ Live Free (but 54 1) gives refused 10
    ∷ Live Free (but 56 1) gives refused 10
    ∷ Live Free (but 85 1) gives refused 10
    -- a byte short, and a byte long
    ∷ Live Free (take 85 one_cell) gives refused 10
    ∷ Live Free (one_cell ++ 0 ∷ []) gives refused 10
    ∷ [])
unfolding the-store
unsound = asking refl

-- 10 comes before every other refusal: no bytes at all, and what would be refused 7, 8, 16, 1 and 4
pub ten-first :
    Asking
    (Live (Append 1) [] gives refused 10
    ∷ Live (Set 0 1) [] gives refused 10
    ∷ Live (Insert 1 1) [] gives refused 10
    ∷ Live (Strike 0) [] gives refused 10
    ∷ Live (Count 0) [] gives refused 10
    ∷ Live (Reading 1) [] gives refused 10
    ∷ Live (Reach 1) [] gives refused 10
    ∷ Live (Day 0 (0 ∷ 24 ∷ [])) [] gives refused 10
    ∷ Live Free [] gives refused 10
    ∷ Freeze [] 9 [] gives refused 10
    ∷ Freeze [] 2 [] gives refused 10
    ∷ [])
unfolding the-store
ten-first = asking refl

-- the test behind it, of a list and chains. One page, 122 coins in the first of so many hours
abbrev chained : (hours : ℕ) (chains : List (List ℕ)) (spare : List ℕ) → Model
chained n cs f = record { plain = record { pages = 1; cells = 3; counts = 122 ∷ replicate n 0 }; chains = cs; spare = f }

-- 64 hours and 65; a page with no cell, with two, and no page; cells 0, 4, twice and left out
pub tested :
    map fine
    (chained 63 ((2 ∷ []) ∷ []) (3 ∷ 1 ∷ [])
    ∷ chained 64 ((2 ∷ []) ∷ []) (3 ∷ 1 ∷ [])
    ∷ chained 63 ([] ∷ []) (2 ∷ 3 ∷ 1 ∷ [])
    ∷ chained 63 ((2 ∷ 3 ∷ []) ∷ []) (1 ∷ [])
    ∷ chained 63 [] (2 ∷ 3 ∷ 1 ∷ [])
    ∷ chained 63 ((2 ∷ []) ∷ [] ∷ []) (3 ∷ 1 ∷ [])
    ∷ chained 63 ((2 ∷ []) ∷ []) (0 ∷ 1 ∷ [])
    ∷ chained 63 ((2 ∷ []) ∷ []) (3 ∷ 4 ∷ [])
    ∷ chained 63 ((2 ∷ []) ∷ []) (3 ∷ 2 ∷ [])
    ∷ chained 63 ((2 ∷ []) ∷ []) (3 ∷ 1 ∷ 1 ∷ [])
    ∷ chained 63 ((2 ∷ []) ∷ []) (3 ∷ [])
    ∷ [])
    ≡ true ∷ false ∷ false ∷ false ∷ false ∷ false ∷ false ∷ false ∷ false ∷ false ∷ false ∷ []
unfolding the-store
tested = refl

-- bytes that are those of their list and chains, and only so far as they go: 'the total fits', 4,294,967,294 coins in page 0 and so many in page 1;
-- and a store without a page, and one without a cell
abbrev rich : (coins code : String) → List ℕ
rich v c =
    hex "01 00 02 00 09 00 00 00 00 00 00 00 41 00 00 00"
    ++ (hex "FE FF FF FF 01 00"
    ++ (fill 4 (hex v)
    ++ (hex "09 00"
    ++ (fill 32 (hex "02 00 FF FF FF FE FF FF FF FE FF FF FF FE FF FF FF FE FF FF FF FE FF FF FF FE")
    ++ (concat (map (λ n. n ∷ replicate 31 0) (3 ∷ 4 ∷ 5 ∷ 6 ∷ 7 ∷ 8 ∷ 0 ∷ [])) ++ fill 32 (hex c))))))

pub outside-limits :
    Asking
    (Live Free (rich "01" "00 00 FC") gives 0
    ∷ Live Free (rich "02" "00 00 AA A0") gives refused 10
    ∷ Live Free (hex "01 00 00 00 01 00 01 00 01 00 00 00 00 00 00 00" ++ replicate 32 0) gives refused 10
    ∷ Live Free (hex "01 00 01 00 00 00 00 00 00 00 00 00 00 00 00 00" ++ replicate 6 0) gives refused 10
    ∷ [])
unfolding the-store
outside-limits = asking refl

-- ---- freeze: the image of 123 and 5 coins, e = 2, has 24 bytes; 'Bytes beyond the image are left unchanged'
abbrev frozen : List ℕ
frozen = hex "01 02 00 00 02 00 00 00 80 00 00 00 1E 00 00 00 00 00 00 00 80 80 7B 00"

-- of the two pages, e = 6
abbrev frozen_pages : List ℕ
frozen_pages = hex "01 06 00 00 41 00 00 00 0D 00 00 00 4D 00 00 00 00 00 00 00 24 00 00 00 60 00 14 00 0D FF FF C0 00 00"

pub freezes :
    Leaves (Freeze two_hours 2 (replicate 24 0xFF)) 24 (two_hours ∷ frozen ∷ [])
    × Leaves (Freeze two_hours 2 (replicate 26 0xFF)) 24 (two_hours ∷ (frozen ++ 0xFF ∷ 0xFF ∷ []) ∷ [])
    × Leaves (Freeze two_pages_bytes 6 (replicate 34 0xFF)) 34 (two_pages_bytes ∷ frozen_pages ∷ [])
unfolding the-store
freezes = (leaves refl, leaves refl, leaves refl)

-- 10, then 1, then 4
pub freeze-refusals :
    Asking
    (Freeze two_hours 2 (replicate 23 0xFF) gives refused 4
    ∷ Freeze two_hours 1 [] gives refused 1
    ∷ Freeze two_hours 9 [] gives refused 1
    ∷ Freeze two_hours 8 (replicate 83 0) gives refused 4
    ∷ Freeze (but 0 2) 9 [] gives refused 10
    ∷ Freeze (but 0 2) 2 [] gives refused 10
    ∷ [])
unfolding the-store
freeze-refusals = asking refl
