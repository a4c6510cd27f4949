-- A store brought back to sound by examples, in the numbers of documents 01 and 02: which pages are kept, each clause of note 10 by itself, what is left
-- of the store and of the list, and each reason for 18. Forms as in `ExamplesStore`. Assumes nothing.
use mathlib.Core.List.{List, [], ◌∷◌, ◌++◌, map}
use mathlib.Core.Path.{◌≡◌, refl, ap, ◌∙◌}
use Prim.Native.Nat.{ℕ, ◌-◌, ◌^◌, ◌<◌}
use Prim.Native.String.{String}
use native.Mathlib.Omega.{arith}
use lib.ListN.{get_or, replicate, set, take}
use borrow.Author.Tests.{leb-true}
use Rattle.lists.specs.Lists.{concat, fill}
use Rattle.store.specs.Plain.{Append}
use Rattle.store.specs.Reading.{list_in, page_count_of, read}
use Rattle.hourlog_c.specs.Export.{Answers}
use Rattle.hourlog_c.specs.Public.{Freeze, Live, Repair}
use Rattle.demands.proofs.ExampleForms.{Asking, Leaves, ◌gives◌, asking, hex, leaves, refused}
use Rattle.demands.proofs.Computing.{the-repair}
use Rattle.demands.proofs.Note10.{freezes-again, loses-nothing as store-stays, never-10, once_more, ten-no-more}

-- ---- a store part by part. A cell's last bytes are zero where they are not shown
abbrev board : (header : String) (entries cells : List String) → List ℕ
board h es cs = hex h ++ (concat (map hex es) ++ concat (map (λ c. fill 32 (hex c)) cs))

-- three pages, six cells, 192 hours: 122 coins in hour 0, in cell 3; 123 in hour 64, in cells 5 and 1; 5 in hour 128, in cell 2. Cells 6 and 4 are free
abbrev whole : List ℕ
whole =
    board "01 00 03 00 06 00 06 00 02 00 00 00 C0 00 00 00" ("7A 00 00 00 03 00" ∷ "7B 00 00 00 05 00" ∷ "05 00 00 00 02 00" ∷ [])
    ("00 00" ∷ "00 00 B6 DB 40" ∷ "00 00 F5 EB D7 AF 5E 80" ∷ "00 00" ∷ "01 00 F7 EF DF BF 7E C0" ∷ "04 00" ∷ [])

-- 'The remaining cells are cleared and chained in rising order': 4 and 6
abbrev sorted : List ℕ
sorted =
    board "01 00 03 00 06 00 04 00 02 00 00 00 C0 00 00 00" ("7A 00 00 00 03 00" ∷ "7B 00 00 00 05 00" ∷ "05 00 00 00 02 00" ∷ [])
    ("00 00" ∷ "00 00 B6 DB 40" ∷ "00 00 F5 EB D7 AF 5E 80" ∷ "06 00" ∷ "01 00 F7 EF DF BF 7E C0" ∷ "00 00" ∷ [])

-- a list with room for one page more than there are
abbrev list : List ℕ
list = 77 ∷ 88 ∷ 99 ∷ 111 ∷ []

-- a store that loses nothing
abbrev Stays : List ℕ → Type 0
Stays s = Leaves (Repair s list) 0 (sorted ∷ list ∷ [])

-- 'a sound store loses no count and lists nothing'; whatever bytes 6 to 9 say, where the free chain runs, also into a page, and what is in free cells
pub loses-nothing :
    Stays whole
    × Stays sorted
    × Leaves (Repair whole (77 ∷ 88 ∷ 99 ∷ [])) 0 (sorted ∷ (77 ∷ 88 ∷ 99 ∷ []) ∷ [])
    × Stays (set (set (set (set whole 6 0xFF) 7 0xFF) 8 0xFF) 9 0xFF)
    × Stays (set whole 6 2)
    × Stays (set whole 194 2)
    × Stays (set whole 131 1)
    × Stays (set (set whole 132 1) 225 0xFF)
unfolding the-repair
loses-nothing = (leaves refl, leaves refl, leaves refl, leaves refl, leaves refl, leaves refl, leaves refl, leaves refl)

-- ---- 'Other pages become zero, and their numbers are listed'
-- without page 0, its cell 3 is free; without page 1, cells 1 and 5 are; without page 2, cell 2 is
abbrev Loses0 : List ℕ → Type 0
Loses0 s =
    Leaves (Repair s list) 1
    (board "01 00 03 00 06 00 03 00 03 00 00 00 C0 00 00 00" ("00 00 00 00 00 00" ∷ "7B 00 00 00 05 00" ∷ "05 00 00 00 02 00" ∷ [])
    ("00 00" ∷ "00 00 B6 DB 40" ∷ "04 00" ∷ "06 00" ∷ "01 00 F7 EF DF BF 7E C0" ∷ "00 00" ∷ [])
    ∷ (0 ∷ 88 ∷ 99 ∷ 111 ∷ [])
    ∷ [])

abbrev Loses1 : List ℕ → Type 0
Loses1 s =
    Leaves (Repair s list) 1
    (board "01 00 03 00 06 00 01 00 04 00 00 00 C0 00 00 00" ("7A 00 00 00 03 00" ∷ "00 00 00 00 00 00" ∷ "05 00 00 00 02 00" ∷ [])
    ("04 00" ∷ "00 00 B6 DB 40" ∷ "00 00 F5 EB D7 AF 5E 80" ∷ "05 00" ∷ "06 00" ∷ "00 00" ∷ [])
    ∷ (1 ∷ 88 ∷ 99 ∷ 111 ∷ [])
    ∷ [])

abbrev without2 : List ℕ
without2 =
    board "01 00 03 00 06 00 02 00 03 00 00 00 C0 00 00 00" ("7A 00 00 00 03 00" ∷ "7B 00 00 00 05 00" ∷ "00 00 00 00 00 00" ∷ [])
    ("00 00" ∷ "04 00" ∷ "00 00 F5 EB D7 AF 5E 80" ∷ "06 00" ∷ "01 00 F7 EF DF BF 7E C0" ∷ "00 00" ∷ [])

abbrev Loses2 : List ℕ → Type 0
Loses2 s = Leaves (Repair s list) 1 (without2 ∷ (2 ∷ 88 ∷ 99 ∷ 111 ∷ []) ∷ [])

-- 'its chain has the length its sum asks for .. ends in 0': a next cell 4, which is free, 256, and a cycle; two cells where one is asked for by sum
-- 122; one where two are by 123; cycles of one and two cells; and sum 0 with a first cell other than 0
pub by-its-length :
    Loses0 (set whole 98 4)
    × Loses0 (set whole 99 1)
    × Loses0 (set whole 98 3)
    × Loses1 (set whole 22 0x7A)
    × Loses1 (set whole 162 0)
    × Loses1 (set whole 162 5)
    × Loses1 (set whole 34 5)
    × Loses2 (set whole 28 0)
unfolding the-repair
by-its-length = (leaves refl, leaves refl, leaves refl, leaves refl, leaves refl, leaves refl, leaves refl, leaves refl)

-- 'names only cells 1 to C': 0, 7 and 65,283, at the front and behind it
pub by-its-cells :
    Loses0 (set whole 20 0)
    × Loses0 (set whole 20 7)
    × Loses0 (set whole 21 0xFF)
    × Loses1 (set whole 162 7)
    × Loses1 (set whole 163 1)
unfolding the-repair
by-its-cells = (leaves refl, leaves refl, leaves refl, leaves refl, leaves refl)

-- page 2 in another entry, with another cell 4
abbrev page2 : (entry cell : String) → List ℕ
page2 e c =
    board "01 00 03 00 06 00 06 00 02 00 00 00 C0 00 00 00" ("7A 00 00 00 03 00" ∷ "7B 00 00 00 05 00" ∷ e ∷ [])
    ("00 00" ∷ "00 00 B6 DB 40" ∷ "00 00 F5 EB D7 AF 5E 80" ∷ c ∷ "01 00 F7 EF DF BF 7E C0" ∷ "04 00" ∷ [])

-- 'uses no cell of a page kept earlier': page 2 is page 0, with its cell 3; page 1, with its cells 5 and 1; and a page with cells 4 and 1; each would
-- be kept by itself
pub by-kept-cells :
    Loses2 (page2 "7A 00 00 00 03 00" "00 00")
    × Loses2 (page2 "7B 00 00 00 05 00" "00 00")
    × Loses2 (page2 "7B 00 00 00 04 00" "01 00 F7 EF DF BF 7E C0")
unfolding the-repair
by-kept-cells = (leaves refl, leaves refl, leaves refl)

-- and of no other: the same three where the earlier page is not kept, for its sum of 121, its sum of 2^24 + 123, and a stray bit
abbrev Moves : List ℕ → ℕ → List ℕ → Type 0
Moves s p t = Leaves (Repair s list) 1 (t ∷ (p ∷ 88 ∷ 99 ∷ 111 ∷ []) ∷ [])

pub by-no-other-cells :
    Moves (set (page2 "7A 00 00 00 03 00" "00 00") 16 0x79) 0
    (board "01 00 03 00 06 00 02 00 03 00 00 00 C0 00 00 00" ("00 00 00 00 00 00" ∷ "7B 00 00 00 05 00" ∷ "7A 00 00 00 03 00" ∷ [])
    ("00 00" ∷ "04 00" ∷ "00 00 F5 EB D7 AF 5E 80" ∷ "06 00" ∷ "01 00 F7 EF DF BF 7E C0" ∷ "00 00" ∷ []))
    × Moves (set (page2 "7B 00 00 00 05 00" "00 00") 25 1) 1
    (board "01 00 03 00 06 00 02 00 03 00 00 00 C0 00 00 00" ("7A 00 00 00 03 00" ∷ "00 00 00 00 00 00" ∷ "7B 00 00 00 05 00" ∷ [])
    ("00 00" ∷ "04 00" ∷ "00 00 F5 EB D7 AF 5E 80" ∷ "06 00" ∷ "01 00 F7 EF DF BF 7E C0" ∷ "00 00" ∷ []))
    × Moves (set (page2 "7B 00 00 00 04 00" "01 00 F7 EF DF BF 7E C0") 169 0xC1) 1
    (board "01 00 03 00 06 00 02 00 03 00 00 00 C0 00 00 00" ("7A 00 00 00 03 00" ∷ "00 00 00 00 00 00" ∷ "7B 00 00 00 04 00" ∷ [])
    ("00 00" ∷ "05 00" ∷ "00 00 F5 EB D7 AF 5E 80" ∷ "01 00 F7 EF DF BF 7E C0" ∷ "06 00" ∷ "00 00" ∷ []))
unfolding the-repair
by-no-other-cells = (leaves refl, leaves refl, leaves refl)

-- 'its tree has no damage': a left sum of 123 above 122; sums of 121 and 4 over the code of 122 and 5; and 3 of 3 six times, FF F0, over a sum of 2
pub by-damage :
    Loses0 (set whole 100 0xF7)
    × Loses0 (set whole 16 0x79)
    × Loses2 (set whole 28 4)
    × Loses2 (set (set (set (set whole 28 2) 68 0xFF) 69 0xF0) 70 0)
unfolding the-repair
by-damage = (leaves refl, leaves refl, leaves refl, leaves refl)

-- 'or stray bits': left over in the tree, at its end; behind a reserve of 241 bits, the first one and the chain's last; the last of a cell with less
pub by-stray-bits :
    Loses0 (set whole 105 0xA0)
    × Loses0 (set whole 129 1)
    × Loses1 (set whole 36 0x80)
    × Loses1 (set whole 36 0x40)
    × Loses1 (set whole 65 1)
    × Loses2 (set whole 97 1)
unfolding the-repair
by-stray-bits = (leaves refl, leaves refl, leaves refl, leaves refl, leaves refl, leaves refl)

-- 'its hours from N on are zero': hour 128 with N = 129 and with N = 128; 'the same N'
pub by-its-hours :
    Leaves (Repair (set whole 12 129) list) 0 (set sorted 12 129 ∷ list ∷ [])
    × Leaves (Repair (set whole 12 128) list) 1 (set without2 12 128 ∷ (2 ∷ 88 ∷ 99 ∷ 111 ∷ []) ∷ [])
unfolding the-repair
by-its-hours = (leaves refl, leaves refl)

-- 'and the total of kept pages fits', as the pages are gone through. 4,294,967,294 coins in page 0, in cells 1 to 8; 2 in page 1, in cell 9, are too
-- many, and 1 in page 2, in cell 10, is not. Where page 1 has 1, page 2 is one too many
abbrev rich : (header entry1 entry2 cell9 cell10 : String) → List ℕ
rich h e f c d =
    board h ("FE FF FF FF 01 00" ∷ e ∷ f ∷ [])
    ("02 00 FF FF FF FE FF FF FF FE FF FF FF FE FF FF FF FE FF FF FF FE FF FF FF FE"
    ∷ "03 00"
    ∷ "04 00"
    ∷ "05 00"
    ∷ "06 00"
    ∷ "07 00"
    ∷ "08 00"
    ∷ "00 00"
    ∷ c
    ∷ d
    ∷ [])

pub by-the-total :
    Leaves
    (Repair
    (rich "01 00 03 00 0A 00 00 00 00 00 00 00 C0 00 00 00" "02 00 00 00 09 00" "01 00 00 00 0A 00" "00 00 AA A0" "00 00 FC") list) 1
    (rich "01 00 03 00 0A 00 09 00 01 00 00 00 C0 00 00 00" "00 00 00 00 00 00" "01 00 00 00 0A 00" "00 00" "00 00 FC"
    ∷ (1 ∷ 88 ∷ 99 ∷ 111 ∷ [])
    ∷ [])
    × Leaves
    (Repair
    (rich "01 00 03 00 0A 00 00 00 00 00 00 00 C0 00 00 00" "01 00 00 00 09 00" "01 00 00 00 0A 00" "00 00 FC" "00 00 FC") list) 1
    (rich "01 00 03 00 0A 00 0A 00 01 00 00 00 C0 00 00 00" "01 00 00 00 09 00" "00 00 00 00 00 00" "00 00 FC" "00 00"
    ∷ (2 ∷ 88 ∷ 99 ∷ 111 ∷ [])
    ∷ [])
unfolding the-repair
by-the-total = (leaves refl, leaves refl)

-- ---- 'listed from the start of a lent buffer in rising order. The result is how many were listed; later entries of that buffer are unchanged': pages 0
-- and 2; all three, with 0xFF in every entry, and nothing is left but N
pub several :
    Leaves (Repair (set (set whole 98 4) 97 1) list) 2
    (board "01 00 03 00 06 00 02 00 04 00 00 00 C0 00 00 00" ("00 00 00 00 00 00" ∷ "7B 00 00 00 05 00" ∷ "00 00 00 00 00 00" ∷ [])
    ("00 00" ∷ "03 00" ∷ "04 00" ∷ "06 00" ∷ "01 00 F7 EF DF BF 7E C0" ∷ "00 00" ∷ [])
    ∷ (0 ∷ 2 ∷ 99 ∷ 111 ∷ [])
    ∷ [])
    × Leaves (Repair (take 16 whole ++ replicate 210 0xFF) list) 3
    (board "01 00 03 00 06 00 01 00 06 00 00 00 C0 00 00 00" ("00 00 00 00 00 00" ∷ "00 00 00 00 00 00" ∷ "00 00 00 00 00 00" ∷ [])
    ("02 00" ∷ "03 00" ∷ "04 00" ∷ "05 00" ∷ "06 00" ∷ "00 00" ∷ [])
    ∷ (0 ∷ 1 ∷ 2 ∷ 111 ∷ [])
    ∷ [])
unfolding the-repair
several = (leaves refl, leaves refl)

-- ---- 'its only refusal is 18, for a wrong store length, a header with byte 0, byte 1, bytes 10-11, P, C or N out of document 01's rules, or a list
-- buffer shorter than P entries': each alone. A refused call leaves the store and the list as they were
pub not-repairable :
    Asking
    (Repair (take 225 whole) list gives refused 18
    ∷ Repair (whole ++ 0 ∷ []) list gives refused 18
    ∷ Repair [] list gives refused 18
    ∷ Repair (set whole 0 0) list gives refused 18
    ∷ Repair (set whole 0 2) list gives refused 18
    ∷ Repair (set whole 1 1) list gives refused 18
    ∷ Repair (set whole 10 1) list gives refused 18
    ∷ Repair (set whole 11 1) list gives refused 18
    -- P of 2 and 4, and C of 5 and 7, where the length is that of 3 and 6; P of 0 and 1,025, and C of 0 and 1,801, of their own lengths
    ∷ Repair (set whole 2 2) list gives refused 18
    ∷ Repair (set whole 2 4) list gives refused 18
    ∷ Repair (set whole 4 5) list gives refused 18
    ∷ Repair (set whole 4 7) list gives refused 18
    ∷ Repair (hex "01 00 00 00 01 00 01 00 01 00 00 00 00 00 00 00" ++ replicate 32 0) [] gives refused 18
    ∷ Repair (hex "01 00 01 04 01 00 01 00 01 00 00 00 00 00 00 00" ++ replicate 6182 0) (replicate 1025 0) gives refused 18
    ∷ Repair (hex "01 00 01 00 00 00 00 00 00 00 00 00 00 00 00 00" ++ replicate 6 0) list gives refused 18
    ∷ Repair (hex "01 00 01 00 09 07 01 00 01 00 00 00 00 00 00 00" ++ replicate 57638 0) list gives refused 18
    -- N of 193, 192 + 2^8, 2^16 and 2^24
    ∷ Repair (set whole 12 193) list gives refused 18
    ∷ Repair (set whole 13 1) list gives refused 18
    ∷ Repair (set whole 14 1) list gives refused 18
    ∷ Repair (set whole 15 1) list gives refused 18
    -- a list for two pages, and for none
    ∷ Repair whole (77 ∷ 88 ∷ []) gives refused 18
    ∷ Repair whole [] gives refused 18
    ∷ [])
unfolding the-repair
not-repairable = asking refl

-- ---- sentences of Note10 of these stores, so that none of them can say less. Pages 0 and 2 of this one are lost
abbrev ruined : List ℕ
ruined = set (set whole 98 4) 97 1

module _ (t d : List ℕ) (w : ℕ) (a : Answers (Repair ruined list) w (t ∷ d ∷ [])) where
  low : w < 2 ^ 63
  low = omega (arith, (several.0.only w (t ∷ d ∷ []) a).0)

  -- 10 never comes, here or behind it
  pub not-10 : w ≡ 2 ^ 64 - 10 → ⊥
  not-10 = never-10 ruined list t d w a

  pub appends-again : (v : ℕ) (u : List (List ℕ)) → Answers (Live (Append 1) t) v u → v ≡ 2 ^ 64 - 10 → ⊥
  appends-again = ten-no-more ruined list t d w low a (Append 1)

  pub frozen-again : (v : ℕ) (u : List (List ℕ)) → Answers (Freeze t 6 []) v u → v ≡ 2 ^ 64 - 10 → ⊥
  frozen-again = freezes-again ruined list t d w low a 6 []

  -- repaired once more it stays
  pub twice : (t' d' : List ℕ) (w' : ℕ) → Answers (Repair t (5 ∷ 6 ∷ 7 ∷ [])) w' (t' ∷ d' ∷ []) → (t' ≡ t) × (d' ≡ 5 ∷ 6 ∷ 7 ∷ []) × (w' ≡ 0)
  unfolding the-repair
  twice t' d' w' r = once_more ruined list t d w low a (5 ∷ 6 ∷ 7 ∷ []) t' d' w' (leb-true (page_count_of ruined) 3 refl) r

-- a sound store: hour 64 still has 123 coins, in cells 5 and 1
pub keeps : (t d : List ℕ) (w : ℕ) → Answers (Repair whole list) w (t ∷ d ∷ [])
    → (get_or (list_in t) 64 0 ≡ 123) × (get_or (read t).chains 1 [] ≡ 5 ∷ 1 ∷ []) × (d ≡ list) × (w ≡ 0)
unfolding the-repair
keeps t d w a =
    let k = store-stays whole list t d w a refl (leb-true (page_count_of whole) 4 refl) in
    (ap (λ (z : List ℕ). get_or z 64 0) k.0 ∙ refl, ap (λ (z : List (List ℕ)). get_or z 1 []) k.1 ∙ refl, k.2, k.3)
