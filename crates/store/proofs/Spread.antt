-- Bytes hold a model, link by link and block by block. Assumes nothing.
use mathlib.Core.Path.{◌≡◌, ap₂, ◌∙◌}
use mathlib.Core.List.{List, [], ◌∷◌, ◌++◌}
use Prim.Native.Nat.{ℕ, suc, ◌+◌, ◌*◌, ◌<◌}
use native.Mathlib.Omega.{arith}
use lib.ListN.{length, get_or, take, drop, replicate}
use lib.Seq.{take-take}
use Rattle.lists.specs.Lists.{concat, first, part, sum}
use Rattle.bits.specs.Numbers.{little}
use Rattle.store.specs.Layout.{Laid, Model, cell_at, entry, header, lay, lay_all, lay_pages, size, cells_start, entry_at}
use Rattle.store.specs.PageCode.{page_bytes}
use Rattle.store.specs.Plain.{page}
use Rattle.lists.proofs.Parts.{part-front, part_in, part-more}
use Rattle.store.proofs.Filling.{Filled}
use Rattle.store.proofs.Holds.{Holds}
use Rattle.store.proofs.Laying.{All, all_append, all_left, all_right, pages-all}
use Rattle.store.proofs.Writes.{Linked}

abbrev pub Cell : List ℕ → ℕ → Laid → Type 0
Cell s base l = part s (cell_at base l.cell) 32 ≡ l.bytes

pub part-two : (s : List ℕ) (a i n : ℕ) (x y : List ℕ) → part s a i ≡ x → part s (a + i) n ≡ y → part s a (i + n) ≡ x ++ y
part-two s a i n x y e f = part-more s a i n ∙ ap₂ ◌++◌ e f

laid-linked : (s : List ℕ) (base a : ℕ) (cs code : List ℕ) → part s a 2 ≡ little 2 (first cs) → All (Cell s base) (lay cs code) → Linked s base a cs 0
unfolding lay first little
laid-linked s base a [] code e h = e
laid-linked s base a (c ∷ cs) code e h = (
  e,
  laid-linked s base (cell_at base c) cs (drop 30 code) (part-front s (little 2 (first cs) ++ take 30 code) (cell_at base c) 32 2 h.0 (omega arith))
      h.1,
)

laid_filled : (s : List ℕ) (base : ℕ) (cs code : List ℕ) → All (Cell s base) (lay cs code) → Filled s base cs code
unfolding lay first little
laid_filled s base [] code h = tt
laid_filled s base (c ∷ cs) code h = (
  part_in s (little 2 (first cs) ++ take 30 code) (cell_at base c) 32 2 30 h.0 (omega arith)
      ∙ take-take 30 30 code (omega arith),
  laid_filled s base cs (drop 30 code) h.1,
)

first-linked : (s : List ℕ) (base a : ℕ) (cs : List ℕ) → Linked s base a cs 0 → part s a 2 ≡ little 2 (first cs)
unfolding first
first-linked s base a [] h = h
first-linked s base a (c ∷ cs) h = h.0

linked-laid : (s : List ℕ) (base a : ℕ) (cs code : List ℕ) → Linked s base a cs 0 → Filled s base cs code → All (Cell s base) (lay cs code)
unfolding lay
linked-laid s base a [] code h j = tt
linked-laid s base a (c ∷ cs) code h j = (
  part-two s (cell_at base c) 2 30 (little 2 (first cs)) (take 30 code) (first-linked s base (cell_at base c) cs h.1) j.0,
  linked-laid s base (cell_at base c) cs (drop 30 code) h.1 j.1,
)

pub record Spread (s : List ℕ) (m : Model) : Type 0 where
  pub size : length s ≡ size m.plain.pages m.plain.cells
  pub fixed : part s 0 6 ≡ take 6 (header m)
  pub free : Linked s (cells_start m.plain.pages) 6 m.spare 0
  pub free-count : part s 8 2 ≡ little 2 (length m.spare)
  pub gap : part s 10 2 ≡ 0 ∷ 0 ∷ []
  pub hours : part s 12 4 ≡ little 4 (length m.plain.counts)
  pub sums : (q : ℕ) → q < m.plain.pages → part s (entry_at q) 4 ≡ little 4 (sum (page m.plain.counts q))
  pub links : (q : ℕ) → q < m.plain.pages → Linked s (cells_start m.plain.pages) (entry_at q + 4) (get_or m.chains q []) 0
  pub fills : (q : ℕ) → q < m.plain.pages → Filled s (cells_start m.plain.pages) (get_or m.chains q []) (page_bytes (page m.plain.counts q))
  pub zeros : Filled s (cells_start m.plain.pages) m.spare (replicate (30 * length m.spare) 0)

pub spread-of : (s : List ℕ) (m : Model) → length m.chains ≡ m.plain.pages → Holds s m → Spread s m
unfolding header entry concat little lay_all
spread-of s m rows h = record {
  size = h.size;
  fixed = part-front s (header m) 0 16 6 h.head (omega arith);
  free = laid-linked s (cells_start P) 6 m.spare Z (part_in s (header m) 0 16 6 2 h.head (omega arith)) spare-laid;
  free-count = part_in s (header m) 0 16 8 2 h.head (omega arith);
  gap = part_in s (header m) 0 16 10 2 h.head (omega arith);
  hours = part_in s (header m) 0 16 12 4 h.head (omega arith);
  sums = λ q l. part-front s (entry m q) (entry_at q) 6 4 (h.entries q l) (omega arith);
  links = λ q l.
      laid-linked s (cells_start P) (entry_at q + 4) (get_or m.chains q []) (page_bytes (page m.plain.counts q))
      (part_in s (entry m q) (entry_at q) 6 4 2 (h.entries q l) (omega arith)) (page-laid q l);
  fills = λ q l. laid_filled s (cells_start P) (get_or m.chains q []) (page_bytes (page m.plain.counts q)) (page-laid q l);
  zeros = laid_filled s (cells_start P) m.spare Z spare-laid;
}
  where
    P : ℕ
    P = m.plain.pages

    Z : List ℕ
    Z = replicate (30 * length m.spare) 0

    spare-laid : All (Cell s (cells_start P)) (lay m.spare Z)
    spare-laid = all_right (Cell s (cells_start P)) (lay_pages m.plain.counts 0 m.chains) (lay m.spare Z) h.cells

    page-laid : (q : ℕ) → q < P → All (Cell s (cells_start P)) (lay (get_or m.chains q []) (page_bytes (page m.plain.counts q)))
    page-laid q l =
        let e : 0 + q ≡ q = omega arith in
        rw e at (pages-all (Cell s (cells_start P)) m.plain.counts 0 m.chains q (omega arith)
        (all_left (Cell s (cells_start P)) (lay_pages m.plain.counts 0 m.chains) (lay m.spare Z) h.cells))

lay-pages : (s : List ℕ) (base : ℕ) (xs : List ℕ) (q : ℕ) (css : List (List ℕ))
    → ((p : ℕ) → p < length css → All (Cell s base) (lay (get_or css p []) (page_bytes (page xs (q + p))))) → All (Cell s base) (lay_pages xs q css)
unfolding lay_pages
lay-pages s base xs q [] h = tt
lay-pages s base xs q (cs ∷ css) h =
    all_append (Cell s base) (lay cs (page_bytes (page xs q))) (lay_pages xs (suc q) css)
    (let e : q + 0 ≡ q = omega arith in rw e at (h 0 (omega arith)))
    (lay-pages s base xs (suc q) css (λ p l. let e : q + suc p ≡ suc q + p = omega arith in rw e at (h (suc p) (omega arith))))

pub spread-holds : (s : List ℕ) (m : Model) → length m.chains ≡ m.plain.pages → Spread s m → Holds s m
unfolding header entry concat little lay_all
spread-holds s m rows h = record {
  size = h.size;
  head =
      part-two s 0 12 4 _ _
      (part-two s 0 10 2 _ _
      (part-two s 0 8 2 _ _ (part-two s 0 6 2 _ _ h.fixed (first-linked s (cells_start m.plain.pages) 6 m.spare h.free)) h.free-count) h.gap)
      h.hours;
  entries = λ q l. part-two s (entry_at q) 4 2 _ _ (h.sums q l)
      (first-linked s (cells_start m.plain.pages) (entry_at q + 4) (get_or m.chains q []) (h.links q l));
  cells =
      all_append (Cell s (cells_start m.plain.pages)) (lay_pages m.plain.counts 0 m.chains) (lay m.spare (replicate (30 * length m.spare) 0))
      (lay-pages s (cells_start m.plain.pages) m.plain.counts 0 m.chains
      (λ q l. let e : 0 + q ≡ q = omega arith in rw e
      (linked-laid s (cells_start m.plain.pages) (entry_at q + 4) (get_or m.chains q []) (page_bytes (page m.plain.counts q)) (h.links q (omega arith))
      (h.fills q (omega arith)))))
      (linked-laid s (cells_start m.plain.pages) 6 m.spare (replicate (30 * length m.spare) 0) h.free h.zeros);
}
