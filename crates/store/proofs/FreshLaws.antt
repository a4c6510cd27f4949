-- The store that fresh makes is good. Assumes nothing.
use mathlib.Core.Path.{◌≡◌, refl, sym, ap, ap₂, ◌∙◌}
use mathlib.Core.Bool.{Bool, true, false, ◌&&◌, and-false}
use mathlib.Core.List.{List, [], ◌∷◌}
use Prim.Native.Nat.{ℕ, zero, suc, ◌+◌, ◌*◌, ◌≤◌, ◌<◌}
use native.Mathlib.Nat.{not-suc-le-zero}
use native.Mathlib.Omega.{arith}
use native.Mathlib.Decide.{ℕ_discrete, dec_le}
use lib.ListN.{get_or}
use lib.Dec.{leb, eqb}
use borrow.Author.Tests.{le-leb, lt-leb, eq-eqb, ne_eqb}
use Rattle.lists.specs.Lists.{concat, first, occurrences, one, sum, tabulate}
use Rattle.store.specs.Limits.{Limits}
use Rattle.store.specs.Layout.{fresh}
use Rattle.store.specs.Plain.{page}
use Rattle.store.specs.Sound.{Good, is_cell, on_chains}
use Rattle.lists.proofs.Occurrences.{occurrences-append}
use Rattle.lists.proofs.Sums.{sum-nones}
use Rattle.lists.proofs.Tables.{get_d_tabulate, length-tabulate, tabulate-snoc}
use Rattle.store.proofs.PageCodeLaws.{cells-none}

one-le : (b : Bool) → one b ≤ 1
unfolding one
one-le true = omega arith
one-le false = omega arith

pub cell_in : (C c : ℕ) → 1 ≤ c → c ≤ C → is_cell C c ≡ 1
unfolding is_cell one
cell_in C c h j = rw (le-leb 1 c h, le-leb c C j)

pub cell-high : (C c : ℕ) → C < c → is_cell C c ≡ 0
unfolding is_cell one
cell-high C c h = rw (lt-leb c C h, and-false)

pub cell-zero : (C c : ℕ) → c < 1 → is_cell C c ≡ 0
unfolding is_cell one
cell-zero C c h = rw (lt-leb 1 c h)

pub cell-le : (C c : ℕ) → is_cell C c ≤ 1
unfolding is_cell
cell-le C c = go (leb 1 c && leb c C)
  where
    go : (b : Bool) → one b ≤ 1
    go b = one-le b

-- a number that counts is a cell's
pub cell-is : (C c : ℕ) → 1 ≤ is_cell C c → (1 ≤ c) × (c ≤ C)
cell-is C c h = go (dec_le 1 c) (dec_le c C)
  where
    go : Dec (1 ≤ c) → Dec (c ≤ C) → (1 ≤ c) × (c ≤ C)
    go (yes a) (yes b) = (a, b)
    go (no a) b = absurd (omega (arith, cell-zero C c (omega arith)))
    go (yes a) (no b) = absurd (omega (arith, cell-high C c (omega arith)))

occurrences-one : (c d : ℕ) → occurrences c (d ∷ []) ≡ one (eqb c d)
unfolding occurrences
occurrences-one c d = omega arith

pub occurrences-upto : (C c : ℕ) → occurrences c (tabulate C suc) ≡ is_cell C c
unfolding tabulate occurrences one
occurrences-upto zero c = go (dec_le 1 c)
  where
    go : Dec (1 ≤ c) → occurrences c (tabulate 0 suc) ≡ is_cell 0 c
    go (yes a) = sym (cell-high 0 c a)
    go (no a) = sym (cell-zero 0 c (omega arith))
occurrences-upto (suc C) c =
    ap (occurrences c) (tabulate-snoc C suc) ∙ occurrences-append c (tabulate C suc) (suc C ∷ [])
    ∙ ap₂ ◌+◌ (occurrences-upto C c) (occurrences-one c (suc C)) ∙ go (ℕ_discrete c (suc C)) (dec_le 1 c) (dec_le c C)
  where
    go : Dec (c ≡ suc C) → Dec (1 ≤ c) → Dec (c ≤ C) → is_cell C c + one (eqb c (suc C)) ≡ is_cell (suc C) c
    go (yes e) b d = omega (arith, cell-high C c (omega arith), cell_in (suc C) c (omega arith) (omega arith), ap one (eq-eqb c (suc C) e))
    go (no e) (no b) d = omega (arith, cell-zero C c (omega arith), cell-zero (suc C) c (omega arith), ap one (ne_eqb c (suc C) e))
    go (no e) (yes b) (yes d) = omega (arith, cell_in C c b d, cell_in (suc C) c b (omega arith), ap one (ne_eqb c (suc C) e))
    go (no e) (yes b) (no d) = omega (arith, cell-high C c (omega arith), cell-high (suc C) c (omega arith), ap one (ne_eqb c (suc C) e))

concat-none : (n : ℕ) → concat (tabulate n (λ _. [])) ≡ []
unfolding tabulate concat
concat-none zero = refl
concat-none (suc n) = concat-none n

pub page-none : (p : ℕ) → sum (page [] p) ≡ 0
unfolding page
page-none p = sum-nones 64 (λ j. get_or {A = ℕ} [] (64 * p + j) 0) (λ j. refl)

pub fresh-good : (P C : ℕ) → Limits P C → Good (fresh P C)
unfolding fresh on_chains sum
fresh-good P C l = record {
  limits = l;
  hours = omega arith;
  total = omega arith;
  rows = length-tabulate P (λ _. []);
  lengths = λ p l. rw (get_d_tabulate {A = List ℕ} P (λ _. []) p [], page-none p, cells-none);
  once = λ x. rw concat-none (occurrences-upto C x);
  all = rw concat-none (length-tabulate C suc);
}

-- the first free cell is cell 1
pub fresh-first : (C : ℕ) → 1 ≤ C → first (tabulate C suc) ≡ 1
unfolding first tabulate
fresh-first zero h = absurd (not-suc-le-zero h)
fresh-first (suc C) h = refl
