-- Document 01, 'The live store': the bytes of a store, part by part, and how chains change. Assumes nothing.
use Rattle.std.specs.Prelude.{List, [], ◌∷◌, ◌++◌, ℕ, suc, ◌+◌, ◌-◌, ◌*◌, length, get_or, take, drop, set, replicate, eqb}
use Rattle.lists.specs.Lists.{tabulate, concat, sum, pick, first}
use Rattle.bits.specs.Numbers.{little}
use Rattle.store.specs.PageCode.{page_bytes}
use Rattle.store.specs.Plain.{Plain, page, plain_fresh, relisted}

-- what a store holds: the plain list, each page's chain of cells, and the free chain
pub record Model : Type 0 where
  pub plain : Plain
  pub chains : List (List ℕ)
  pub spare : List ℕ

-- the bytes of the header and of a page entry
abbrev pub header_length : ℕ
header_length = 16

abbrev pub entry_size : ℕ
entry_size = 6

-- where page p's entry starts
abbrev pub entry_at : ℕ → ℕ
entry_at p = header_length + entry_size * p

-- where the cells of a store of P pages start: behind the last entry
abbrev pub cells_start : ℕ → ℕ
cells_start P = entry_at P

-- where cell c starts, of cells that are numbered from 1 and start at base
abbrev pub cell_at : ℕ → ℕ → ℕ
cell_at base c = base + 32 * (c - 1)

-- 'Length is 16 + 6P + 32C bytes exactly, the parts in this order': the header, an entry for each page, the cells
abbrev pub size : ℕ → ℕ → ℕ
size P C = cells_start P + 32 * C

-- 'byte 0 is 1 (edition), byte 1 zero, 2-3 P, 4-5 C, 6-7 first free cell (0 if none), 8-9 number of free cells, 10-11 zero,
-- 12-15 N (hours logged)'
unfoldable pub header : Model → List ℕ
header m =
    concat
    ((1 ∷ 0 ∷ [])
    ∷ little 2 m.plain.pages
    ∷ little 2 m.plain.cells
    ∷ little 2 (first m.spare)
    ∷ little 2 (length m.spare)
    ∷ (0 ∷ 0 ∷ [])
    ∷ little 4 (length m.plain.counts)
    ∷ [])

-- 'Page entry, 6 bytes: page sum (4), first cell (2)'
unfoldable pub entry : Model → ℕ → List ℕ
entry m p = little 4 (sum (page m.plain.counts p)) ++ little 2 (first (get_or m.chains p []))

-- a cell's number and its 32 bytes
pub record Laid : Type 0 where
  pub cell : ℕ
  pub bytes : List ℕ

-- the cells of a chain: 'next cell (2), then 30 bytes, which hold 240 bits of code'. 'Next 0 ends a chain', and `first` of no cells is 0
unfoldable pub lay : List ℕ → List ℕ → List Laid
lay [] code = []
lay (c ∷ cs) code = record { cell = c; bytes = little 2 (first cs) ++ take 30 code } ∷ lay cs (drop 30 code)

-- the chains of the pages from p on, a page's code along its chain
unfoldable pub lay_pages : List ℕ → ℕ → List (List ℕ) → List Laid
lay_pages xs p [] = []
lay_pages xs p (cs ∷ css) = lay cs (page_bytes (page xs p)) ++ lay_pages xs (suc p) css

-- and the free chain: 'Free cells hold 30 zero bytes'
unfoldable pub lay_all : Model → List Laid
lay_all m = lay_pages m.plain.counts 0 m.chains ++ lay m.spare (replicate (30 * length m.spare) 0)

-- the bytes of cell c
unfoldable pub laid_at : ℕ → List Laid → List ℕ
laid_at c [] = []
laid_at c (l ∷ ls) = pick (eqb c l.cell) l.bytes (laid_at c ls)

-- the bytes of a store
unfoldable pub bytes_of : Model → List ℕ
bytes_of m = header m ++ (concat (tabulate m.plain.pages (entry m)) ++ concat (tabulate m.plain.cells (λ j. laid_at (suc j) (lay_all m))))

-- 'A fresh store has N = 0, every page entry zero, and free chain 1, 2, .., C'
unfoldable pub fresh : ℕ → ℕ → Model
fresh P C = record { plain = plain_fresh P C; chains = tabulate P (λ _. []); spare = tabulate C suc }

-- The list becomes ys, and page p is to have k cells: the line between the page's chain and the free chain behind it moves. So 'a page
-- that grows takes cells from the front of the free chain, in that order, onto the end of its own. A page that shrinks gives its last
-- cell to the front of the free chain, then the one before it' (`InOrder`, one cell at a time).
unfoldable pub resize : Model → List ℕ → ℕ → ℕ → Model
resize m ys p k = record {
  plain = relisted m.plain ys;
  chains = set m.chains p (take k (get_or m.chains p [] ++ m.spare));
  spare = drop k (get_or m.chains p [] ++ m.spare);
}
