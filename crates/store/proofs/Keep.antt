-- A change of one count keeps a store good. Assumes nothing.
use mathlib.Core.Path.{◌≡◌, ap, ◌∙◌}
use mathlib.Core.List.{List, []}
use Prim.Native.Nat.{ℕ, ◌+◌, ◌*◌, ◌/◌, ◌≤◌, ◌<◌}
use native.Mathlib.Omega.{arith}
use lib.ListN.{length, get_or, length-append}
use Rattle.lists.specs.Lists.{concat, sum, tabulate}
use Rattle.store.specs.Limits.{max_total}
use Rattle.store.specs.Layout.{Model, resize}
use Rattle.store.specs.PageCode.{cells}
use Rattle.store.specs.Plain.{need, page}
use Rattle.store.specs.Sound.{Good, on_chains}
use Rattle.lists.proofs.Occurrences.{length-concat}
use Rattle.lists.proofs.Pages.{paged-le}
use Rattle.lists.proofs.Sums.{sum-tabulate-one}
use Rattle.lists.proofs.Tables.{tabulate-ext}
use Rattle.store.proofs.Chained.{chained-good, good-chained, page-chained}

-- two lists differ at hour i alone
abbrev pub Off : List ℕ → List ℕ → ℕ → Type 0
Off xs ys i = (h : ℕ) → (h ≡ i → ⊥) → get_or ys h 0 ≡ get_or xs h 0

pub page-off : (xs ys : List ℕ) (i q : ℕ) → Off xs ys i → (q ≡ i / 64 → ⊥) → page ys q ≡ page xs q
unfolding page
page-off xs ys i q o ne = tabulate-ext 64 (λ j. get_or ys (64 * q + j) 0) (λ j. get_or xs (64 * q + j) 0) (λ j l. o (64 * q + j) (λ e. ne (omega arith)))

pub need-off : (xs ys : List ℕ) (i P : ℕ) → Off xs ys i → i / 64 < P
    → need ys P + cells (sum (page xs (i / 64))) ≡ need xs P + cells (sum (page ys (i / 64)))
unfolding need
need-off xs ys i P o l =
    sum-tabulate-one P (λ p. cells (sum (page ys p))) (λ p. cells (sum (page xs p))) (i / 64) l
    (λ q ne. ap (λ (z : List ℕ). cells (sum z)) (page-off xs ys i q o ne))

-- the free chain has what the pages do not need
pub spare-is : (m : Model) → Good m → length m.spare + need m.plain.counts m.plain.pages ≡ m.plain.cells
unfolding on_chains need
spare-is m g =
    let e : length (concat m.chains) ≡ sum (tabulate m.plain.pages (λ p. cells (sum (page m.plain.counts p)))) =
    length-concat m.chains (λ p. cells (sum (page m.plain.counts p))) (λ p l. g.lengths p (rw (← g.rows) l))
    ∙ ap (λ (n : ℕ). sum (tabulate n (λ p. cells (sum (page m.plain.counts p))))) g.rows in
    omega (arith, length-append (concat m.chains) m.spare, g.all, e)

-- the page of hour i is given the cells that it now needs
pub keep : (m : Model) (ys : List ℕ) (i : ℕ) → Good m → Off m.plain.counts ys i → i < 64 * m.plain.pages
    → length ys ≤ 64 * m.plain.pages → sum ys ≤ max_total → need ys m.plain.pages ≤ m.plain.cells
    → Good (resize m ys (i / 64) (cells (sum (page ys (i / 64)))))
unfolding page resize
keep m ys i g o li ly lt lc =
    let p : ℕ = i / 64 in
    let lp : p < m.plain.pages = omega arith in
    let fits : cells (sum (page ys p)) ≤ length (get_or m.chains p []) + length m.spare =
    omega (arith, need-off m.plain.counts ys i m.plain.pages o lp, spare-is m g, g.lengths p lp) in
    chained-good (resize m ys p (cells (sum (page ys p))))
    (page-chained m ys p (good-chained m g) (λ q ne. page-off m.plain.counts ys i q o ne) lp ly (omega (arith, paged-le 64 ys p)) fits)
    lt
