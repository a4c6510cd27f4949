-- Bytes hold a list and chains: a store's bytes do, and no other bytes do. Assumes nothing.
use mathlib.Core.Path.{◌≡◌, refl, sym, ap, ap₂, ◌∙◌}
use mathlib.Core.List.{List, [], ◌++◌, append-nil}
use Prim.Native.Nat.{ℕ, suc, ◌+◌, ◌-◌, ◌*◌, ◌≤◌, ◌<◌}
use native.Mathlib.Omega.{arith}
use lib.ListN.{length, get_or, take, drop, replicate, length-append, length-take, length-drop, length-replicate, take-append-drop}
use lib.Seq.{drop-drop}
use Rattle.lists.specs.Lists.{concat, occurrences, part, sum, tabulate}
use Rattle.bits.specs.Numbers.{little}
use Rattle.store.specs.Layout.{Model, bytes_of, cell_at, entry, header, laid_at, lay, lay_all, lay_pages, size, cells_start, entry_at}
use Rattle.store.specs.PageCode.{cells}
use Rattle.store.specs.Plain.{page}
use Rattle.store.specs.Sound.{Good, is_cell}
use Rattle.store.specs.Code.Chained.{Chained}
use Rattle.lists.proofs.Parts.{part-skip, part-sub}
use Rattle.lists.proofs.Tables.{chop, concat-at, concat-each, length-tabulate, tabulate-ext}
use Rattle.store.proofs.Chained.{good-chained}
use Rattle.store.proofs.FreshLaws.{cell_in, cell-is, cell-le}
use Rattle.store.proofs.Laying.{All, all_append, at_all, at-found, at_length, keys, keys-all, lay-length, pages-length}

pub page-length : (xs : List ℕ) (p : ℕ) → length (page xs p) ≡ 64
unfolding page
page-length xs p = length-tabulate 64 (λ j. get_or xs (64 * p + j) 0)

pub record Holds (s : List ℕ) (m : Model) : Type 0 where
  pub size : length s ≡ size m.plain.pages m.plain.cells
  pub head : part s 0 16 ≡ header m
  pub entries : (p : ℕ) → p < m.plain.pages → part s (entry_at p) 6 ≡ entry m p
  pub cells : All (λ l. part s (cell_at (cells_start m.plain.pages) l.cell) 32 ≡ l.bytes) (lay_all m)

header-length : (m : Model) → length (header m) ≡ 16
unfolding header concat little
header-length m = refl

entry_length : (m : Model) (p : ℕ) → length (entry m p) ≡ 6
unfolding entry little
entry_length m p = refl

pub laid-length : (m : Model) → Chained m → All (λ l. length l.bytes ≡ 32) (lay_all m)
unfolding lay_all
laid-length m g =
    all_append (λ l. length l.bytes ≡ 32) (lay_pages m.plain.counts 0 m.chains) (lay m.spare (replicate (30 * length m.spare) 0))
    (pages-length m.plain.counts 0 m.chains (λ p l. g.lengths p (rw (← g.rows) l)
    ∙ ap (λ (z : ℕ). cells (sum (page m.plain.counts z))) (omega arith)))
    (lay-length m.spare (replicate (30 * length m.spare) 0) (omega (arith, length-replicate {A = ℕ} (30 * length m.spare) 0)))

-- each cell is laid, once
pub laid-count : (m : Model) → Chained m → (c : ℕ) → occurrences c (keys (lay_all m)) ≡ is_cell m.plain.cells c
laid-count m g c = ap (occurrences c) (keys-all m) ∙ g.once c

cell-length : (m : Model) → Chained m → (j : ℕ) → j < m.plain.cells → length (laid_at (suc j) (lay_all m)) ≡ 32
cell-length m g j l = at_length (suc j) (lay_all m) (laid-length m g)
    (omega (arith, laid-count m g (suc j), cell_in m.plain.cells (suc j) (omega arith) (omega arith)))

entry_of : (m : Model) (p : ℕ) → p < m.plain.pages → part (bytes_of m) (entry_at p) 6 ≡ entry m p
unfolding bytes_of
entry_of m p l =
    part-skip (header m) _ (6 * p) 6 16 (header-length m)
    ∙ concat-at m.plain.pages 6 (entry m) _ p (λ j _. entry_length m j) l

cell-of : (m : Model) → Chained m → (c : ℕ) → 1 ≤ c → c ≤ m.plain.cells → part (bytes_of m) (cell_at (cells_start m.plain.pages) c) 32 ≡ laid_at c (lay_all m)
unfolding bytes_of
cell-of m g c a b =
    let P : ℕ = m.plain.pages in
    let C : ℕ = m.plain.cells in
    let f : ℕ → List ℕ = λ j. laid_at (suc j) (lay_all m) in
    let D : List ℕ = concat (tabulate C f) in
    let E : List ℕ = concat (tabulate P (entry m)) in
    let e : size P (c - 1) ≡ 16 + (6 * P + 32 * (c - 1)) = omega arith in
    let e₂ : suc (c - 1) ≡ c = omega arith in
    ap (λ (z : ℕ). part (bytes_of m) z 32) e
    ∙ part-skip (header m) (E ++ D) (6 * P + 32 * (c - 1)) 32 16 (header-length m)
    ∙ part-skip E D (32 * (c - 1)) 32 (6 * P) (concat-each P 6 (entry m) (λ j _. entry_length m j))
    ∙ ap (λ (z : List ℕ). part z (32 * (c - 1)) 32) (sym (append-nil D))
    ∙ concat-at C 32 f [] (c - 1) (λ j l. cell-length m g j l) (omega arith)
    ∙ ap (λ (z : ℕ). laid_at z (lay_all m)) e₂

size_of : (m : Model) → Chained m → length (bytes_of m) ≡ size m.plain.pages m.plain.cells
unfolding bytes_of
size_of m g =
    let P : ℕ = m.plain.pages in
    let C : ℕ = m.plain.cells in
    let f : ℕ → List ℕ = λ j. laid_at (suc j) (lay_all m) in
    omega (
      arith,
      length-append (header m) (concat (tabulate P (entry m)) ++ concat (tabulate C f)),
      length-append (concat (tabulate P (entry m))) (concat (tabulate C f)),
      header-length m,
      concat-each P 6 (entry m) (λ j _. entry_length m j),
      concat-each C 32 f (λ j l. cell-length m g j l),
    )

-- (H1) a model's bytes hold it, if its chains are right
pub chained-bytes : (m : Model) → Chained m → Holds (bytes_of m) m
unfolding bytes_of header concat little
chained-bytes m g = record {
  size = size_of m g;
  head = refl;
  entries = entry_of m;
  cells =
      at_all (λ c. part (bytes_of m) (cell_at (cells_start m.plain.pages) c) 32) (lay_all m)
      (λ c. at_most_one m g c)
      (λ c h. let w = cell-is m.plain.cells c (omega (arith, laid-count m g c)) in cell-of m g c w.0 w.1);
}
  where
    at_most_one : (m : Model) → Chained m → (c : ℕ) → occurrences c (keys (lay_all m)) ≤ 1
    at_most_one m g c = omega (arith, laid-count m g c, cell-le m.plain.cells c)

-- (H2) and no other bytes do
pub chained-only : (s : List ℕ) (m : Model) → Chained m → Holds s m → s ≡ bytes_of m
unfolding bytes_of
chained-only s m g h =
    let P : ℕ = m.plain.pages in
    let C : ℕ = m.plain.cells in
    let f : ℕ → List ℕ = λ j. laid_at (suc j) (lay_all m) in
    let r : List ℕ = drop 16 s in
    let es : concat (tabulate P (entry m)) ≡ take (6 * P) r =
    ap concat (tabulate-ext P (entry m) (λ j. part (take (6 * P) r) (6 * j) 6)
    (λ j l. sym (h.entries j l) ∙ ap (take 6) (sym (drop-drop (6 * j) 16 s)) ∙ sym (part-sub r (6 * j) 6 (6 * P) (omega arith))))
    ∙ chop 6 P (take (6 * P) r) (omega (arith, length-take (6 * P) r, length-drop 16 s, h.size)) in
    let cs : concat (tabulate C f) ≡ drop (6 * P) r =
    ap concat (tabulate-ext C f (λ j. part (drop (6 * P) r) (32 * j) 32) (λ j l. sym (cell-at j l)))
    ∙ chop 32 C (drop (6 * P) r) (omega (arith, length-drop (6 * P) r, length-drop 16 s, h.size)) in
    sym (ap₂ ◌++◌ (sym h.head) (ap₂ ◌++◌ es cs ∙ take-append-drop (6 * P) r) ∙ take-append-drop 16 s)
  where
    cell-at : (j : ℕ) → j < m.plain.cells → part (drop (6 * m.plain.pages) (drop 16 s)) (32 * j) 32 ≡ laid_at (suc j) (lay_all m)
    cell-at j l =
        let P : ℕ = m.plain.pages in
        ap (take 32) (drop-drop (32 * j) (6 * P) (drop 16 s) ∙ drop-drop (6 * P + 32 * j) 16 s)
        ∙ ap (λ (z : ℕ). part s z 32) {x = 16 + (6 * P + 32 * j)} {y = size P (suc j - 1)} (omega arith)
        ∙ at-found (λ c. part s (cell_at (cells_start P) c) 32) (suc j) (lay_all m) h.cells
        (omega (arith, laid-count m g (suc j), cell_in m.plain.cells (suc j) (omega arith) (omega arith)))

-- a good model's
pub holds-bytes : (m : Model) → Good m → Holds (bytes_of m) m
holds-bytes m g = chained-bytes m (good-chained m g)

pub holds-only : (s : List ℕ) (m : Model) → Good m → Holds s m → s ≡ bytes_of m
holds-only s m g h = chained-only s m (good-chained m g) h
