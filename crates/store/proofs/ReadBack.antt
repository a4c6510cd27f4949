-- What is read from bytes that hold a list and its chains is these. Assumes nothing.
use mathlib.Core.Path.{◌≡◌, refl, sym, ap, ap₂, ◌∙◌}
use mathlib.Core.List.{List, [], ◌∷◌, ◌++◌}
use Prim.Native.Nat.{ℕ, suc, ◌+◌, ◌*◌, ◌≤◌, ◌<◌}
use native.Mathlib.Omega.{arith}
use lib.ListN.{length, get_or, take, drop, replicate, length-append, length-replicate}
use lib.Seq.{take_all, take-take, take-add}
use Rattle.lists.specs.Lists.{concat, first, occurrences, part, sum, tabulate}
use Rattle.bits.specs.Numbers.{little, number, number_at}
use Rattle.store.specs.Layout.{Model, cell_at, entry, header, lay, lay_all, lay_pages, cells_start, entry_at}
use Rattle.store.specs.PageCode.{cells, page_bytes, counts_in_page}
use Rattle.store.specs.Plain.{page}
use Rattle.store.specs.Reading.{cells_of, chain_from, chain_in, code_in, hours_in, page_in, page_count_of, read, read_for, spare_in, sum_in}
use Rattle.store.specs.Sound.{on_chains}
use Rattle.store.specs.Code.Chained.{Chained}
use Rattle.lists.proofs.Occurrences.{occurrences-append, occurrences-get_d-concat, one_same}
use Rattle.lists.proofs.Pages.{paged-le, pages-back, pages-get}
use Rattle.lists.proofs.Parts.{part-front, part_in}
use Rattle.lists.proofs.Tables.{tabulate-ext, tabulate-get_d}
use Rattle.lists.proofs.Sums.{sum-tabulate, sum-take-le}
use Rattle.store.proofs.FreshLaws.{cell-is}
use Rattle.store.proofs.Holds.{Holds, page-length}
use Rattle.store.proofs.Laying.{All, all_left, all_right, pages-all}
use Rattle.store.proofs.Numbers.{number-four, number-two}
use Rattle.store.proofs.PageCodeLaws.{counts-page, length-page}

-- a table of a list's elements sums to no more than the list
pub sum-table-le : (n : ℕ) (xs : List ℕ) → sum (tabulate n (λ j. get_or xs j 0)) ≤ sum xs
sum-table-le n xs = omega (arith, sum-tabulate n xs, sum-take-le n xs)

-- ---- the pages, which one after another begin with the list
pub page-le : (xs : List ℕ) (p : ℕ) → sum (page xs p) ≤ sum xs
unfolding page
page-le xs p = paged-le 64 xs p

pub concat-get : (P : ℕ) (xs : List ℕ) (i : ℕ) → i < 64 * P → get_or (concat (tabulate P (page xs))) i 0 ≡ get_or xs i 0
unfolding page
concat-get P xs i l = pages-get 64 P xs i l

pub counts-back : (P : ℕ) (xs : List ℕ) → length xs ≤ 64 * P → take (length xs) (concat (tabulate P (page xs))) ≡ xs
unfolding page
counts-back P xs h = pages-back 64 P xs h

-- ---- a number on a chain
first-low : (cs : List ℕ) (b : ℕ) → 1 ≤ b → ((c : ℕ) → 1 ≤ occurrences c cs → c < b) → first cs < b
unfolding first occurrences
first-low [] b p h = omega arith
first-low (c ∷ cs) b p h = h c (omega (arith, one_same c))

abbrev make : ℕ → ℕ → List ℕ → List (List ℕ) → List ℕ → Model
make P C xs css sp = record { plain = record { pages = P; cells = C; counts = xs }; chains = css; spare = sp }

make-path : (P : ℕ) {C C' : ℕ} {xs xs' : List ℕ} {css css' : List (List ℕ)} {sp sp' : List ℕ} → C ≡ C' → xs ≡ xs' → css ≡ css' → sp ≡ sp'
    → make P C xs css sp ≡ make P C' xs' css' sp'
make-path P a b c d i = make P (a i) (b i) (c i) (d i)

-- the cells of a chain, and its code
pub walk_is : (s : List ℕ) (base : ℕ) (cs code : List ℕ) → All (λ l. part s (cell_at base l.cell) 32 ≡ l.bytes) (lay cs code)
    → ((c : ℕ) → 1 ≤ occurrences c cs → c < 65536) → chain_from s base (length cs) (first cs) ≡ cs
unfolding chain_from lay first occurrences little
walk_is s base [] code a h = refl
walk_is s base (c ∷ cs) code a h =
    let e : number_at s (cell_at base c) 2 ≡ first cs =
    ap number (part-front s (little 2 (first cs) ++ take 30 code) (cell_at base c) 32 2 a.0 (omega arith))
    ∙ number-two (first cs) (first-low cs 65536 (omega arith) (λ d q. h d (omega arith))) in
    ap (λ (z : List ℕ). c ∷ z) (ap (chain_from s base (length cs)) e ∙ walk_is s base cs (drop 30 code) a.1 (λ d q. h d (omega arith)))

pub code_is : (s : List ℕ) (base : ℕ) (cs code : List ℕ) → All (λ l. part s (cell_at base l.cell) 32 ≡ l.bytes) (lay cs code)
    → code_in s base cs ≡ take (30 * length cs) code
unfolding code_in lay little
code_is s base [] code a = refl
code_is s base (c ∷ cs) code a =
    let e : 30 * suc (length cs) ≡ 30 + 30 * length cs = omega arith in
    ap₂ ◌++◌ (part_in s (little 2 (first cs) ++ take 30 code) (cell_at base c) 32 2 30 a.0 (omega arith)
    ∙ take-take 30 30 code (omega arith)) (code_is s base cs (drop 30 code) a.1)
    ∙ sym (ap (λ (z : ℕ). take z code) e ∙ take-add 30 (30 * length cs) code)

module _ (s : List ℕ) (m : Model) (g : Chained m) (h : Holds s m) where
  on-low : (c : ℕ) → 1 ≤ occurrences c (on_chains m) → c < 65536
  on-low c q = omega (arith, g.once c, g.limits.cells-high, cell-is m.plain.cells c (omega (arith, g.once c)))

  chain-low : (p : ℕ) → p < m.plain.pages → (c : ℕ) → 1 ≤ occurrences c (get_or m.chains p []) → c < 65536
  unfolding on_chains
  chain-low p l c q = on-low c
      (omega (arith, occurrences-append c (concat m.chains) m.spare, occurrences-get_d-concat c m.chains p (omega (arith, g.rows))))

  spare_low : (c : ℕ) → 1 ≤ occurrences c m.spare → c < 65536
  unfolding on_chains
  spare_low c q = on-low c (omega (arith, occurrences-append c (concat m.chains) m.spare))

  chain-laid : (p : ℕ) → p < m.plain.pages
      → All (λ l. part s (cell_at (cells_start m.plain.pages) l.cell) 32 ≡ l.bytes) (lay (get_or m.chains p []) (page_bytes (page m.plain.counts p)))
  unfolding lay_all
  chain-laid p l =
      let e : 0 + p ≡ p = omega arith in
      rw e at (pages-all (λ l. part s (cell_at (cells_start m.plain.pages) l.cell) 32 ≡ l.bytes) m.plain.counts 0 m.chains p (omega (arith, g.rows))
      (all_left (λ l. part s (cell_at (cells_start m.plain.pages) l.cell) 32 ≡ l.bytes) (lay_pages m.plain.counts 0 m.chains)
      (lay m.spare (replicate (30 * length m.spare) 0)) h.cells))

  spare-laid : All (λ l. part s (cell_at (cells_start m.plain.pages) l.cell) 32 ≡ l.bytes) (lay m.spare (replicate (30 * length m.spare) 0))
  unfolding lay_all
  spare-laid = all_right (λ l. part s (cell_at (cells_start m.plain.pages) l.cell) 32 ≡ l.bytes) (lay_pages m.plain.counts 0 m.chains)
      (lay m.spare (replicate (30 * length m.spare) 0)) h.cells

  -- the fields
  field : (a n : ℕ) → a + n ≤ 16 → part s (0 + a) n ≡ part (header m) a n
  field a n l = part_in s (header m) 0 16 a n h.head l

  pub pages-is : page_count_of s ≡ m.plain.pages
  unfolding header concat little
  pages-is = ap number (field 2 2 (omega arith)) ∙ number-two m.plain.pages (omega (arith, g.limits.pages-high))

  pub cells_is : cells_of s ≡ m.plain.cells
  unfolding header concat little
  cells_is = ap number (field 4 2 (omega arith)) ∙ number-two m.plain.cells (omega (arith, g.limits.cells-high))

  pub first-is : number_at s 6 2 ≡ first m.spare
  unfolding header concat little
  first-is = ap number (field 6 2 (omega arith)) ∙ number-two (first m.spare) (first-low m.spare 65536 (omega arith) spare_low)

  pub spare-count : number_at s 8 2 ≡ length m.spare
  unfolding header concat little on_chains
  spare-count = ap number (field 8 2 (omega arith))
      ∙ number-two (length m.spare) (omega (arith, g.all, g.limits.cells-high, length-append (concat m.chains) m.spare))

  pub hours-is : hours_in s ≡ length m.plain.counts
  unfolding header concat little
  hours-is = ap number (field 12 4 (omega arith)) ∙ number-four (length m.plain.counts) (omega (arith, g.hours, g.limits.pages-high))

  pub sum_is : (p : ℕ) → p < m.plain.pages → sum_in s p ≡ sum (page m.plain.counts p)
  unfolding sum_in entry little
  sum_is p l =
      ap number (part-front s (entry m p) (entry_at p) 6 4 (h.entries p l) (omega arith))
      ∙ number-four (sum (page m.plain.counts p)) (omega (arith, g.sums p l))

  pub chain_first : (p : ℕ) → p < m.plain.pages → number_at s (entry_at p + 4) 2 ≡ first (get_or m.chains p [])
  unfolding entry little
  chain_first p l =
      ap number (part_in s (entry m p) (entry_at p) 6 4 2 (h.entries p l) (omega arith))
      ∙ number-two (first (get_or m.chains p [])) (first-low (get_or m.chains p []) 65536 (omega arith) (chain-low p l))

  pub chain-is : (p : ℕ) → p < m.plain.pages → chain_in s m.plain.pages p ≡ get_or m.chains p []
  unfolding chain_in
  chain-is p l =
      ap₂ (chain_from s (cells_start m.plain.pages)) (ap cells (sum_is p l) ∙ sym (g.lengths p l)) (chain_first p l)
      ∙ walk_is s (cells_start m.plain.pages) (get_or m.chains p []) (page_bytes (page m.plain.counts p)) (chain-laid p l) (chain-low p l)

  pub code-in : (p : ℕ) → p < m.plain.pages → code_in s (cells_start m.plain.pages) (chain_in s m.plain.pages p) ≡ page_bytes (page m.plain.counts p)
  code-in p l =
      let x : List ℕ = page m.plain.counts p in
      ap (code_in s (cells_start m.plain.pages)) (chain-is p l)
      ∙ code_is s (cells_start m.plain.pages) (get_or m.chains p []) (page_bytes x) (chain-laid p l)
      ∙ take_all (30 * length (get_or m.chains p [])) (page_bytes x) (omega (arith, length-page x, g.lengths p l))

  pub spare-in : code_in s (cells_start m.plain.pages) m.spare ≡ replicate (30 * length m.spare) 0
  spare-in =
      code_is s (cells_start m.plain.pages) m.spare (replicate (30 * length m.spare) 0) spare-laid
      ∙ take_all (30 * length m.spare) (replicate (30 * length m.spare) 0) (omega (arith, length-replicate {A = ℕ} (30 * length m.spare) 0))

  pub page-is : (p : ℕ) → p < m.plain.pages → page_in s m.plain.pages p ≡ page m.plain.counts p
  unfolding page_in
  page-is p l =
      let x : List ℕ = page m.plain.counts p in
      ap₂ counts_in_page (sum_is p l) (code-in p l)
      ∙ counts-page x (page-length m.plain.counts p)

  -- (H3) what is read
  pub read_is : read s ≡ m
  unfolding read read_for spare_in
  read_is =
      let P : ℕ = m.plain.pages in
      ap (read_for s) pages-is
      ∙ make-path P cells_is
      (ap₂ take hours-is (ap concat (tabulate-ext P (page_in s P) (page m.plain.counts) page-is)) ∙ counts-back P m.plain.counts g.hours)
      (tabulate-ext P (chain_in s P) (λ p. get_or m.chains p []) chain-is ∙ ap (λ (z : ℕ). tabulate z (λ p. get_or m.chains p [])) (sym g.rows)
      ∙ tabulate-get_d m.chains [])
      (ap₂ (chain_from s (cells_start P)) spare-count first-is ∙ walk_is s (cells_start P) m.spare (replicate (30 * length m.spare) 0) spare-laid spare_low)
