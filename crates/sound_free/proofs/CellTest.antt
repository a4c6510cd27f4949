-- The test of a cell that a link names: it is a cell, and has no mark. Assumes nothing.
use mathlib.Core.Path.{◌≡◌, refl, sym, ap, ◌∙◌}
use mathlib.Core.Bool.{Bool, true, false, not, ◌&&◌}
use mathlib.Core.List.{List}
use Prim.Native.Nat.{ℕ, ◌≤◌}
use native.Mathlib.Omega.{arith}
use lib.ListN.{get_or}
use lib.Dec.{leb, eqb}
use borrow.Author.Tests.{eq-eqb, leb-true, ne_eqb, not-false, not-true}
use Rattle.lists.proofs.Tests.{left, right}
use Rattle.store.specs.Code.Checked.{cell_test}

module _ (C c : ℕ) {t : Bool} (e : t ≡ (leb 1 c && leb c C)) where
  pub cell-range : not t ≡ false → (1 ≤ c) × (c ≤ C)
  cell-range f = let q = sym e ∙ not-false t f in (leb-true 1 c (left (leb 1 c) (leb c C) q), leb-true c C (right (leb 1 c) (leb c C) q))

  -- a number that is no cell's
  pub no_cell : (m : List ℕ) → not t ≡ true → cell_test C m c ≡ false
  no_cell m f = go (leb 1 c) (leb c C) (sym e ∙ not-true t f)
    where
      go : (x y : Bool) → (x && y) ≡ false → (x && (y && eqb (get_or m c 0) 0)) ≡ false
      go true true q = absurd (let n : ◌≡◌ {A = ℕ} 0 1 = cc in omega arith)
      go true false q = refl
      go false y q = refl

  -- a cell that has no mark
  pub good-cell : (m : List ℕ) → not t ≡ false → get_or m c 0 ≡ 0 → cell_test C m c ≡ true
  good-cell m f h = ap (λ (z : Bool). leb 1 c && (leb c C && z)) (eq-eqb (get_or m c 0) 0 h) ∙ go (leb 1 c) (leb c C) (sym e ∙ not-false t f)
    where
      go : (x y : Bool) → (x && y) ≡ true → (x && (y && true)) ≡ true
      go true true q = refl
      go true false q = q
      go false y q = q

-- a cell that has one
pub met-cell : (C : ℕ) (m : List ℕ) (c : ℕ) → (get_or m c 0 ≡ 0 → ⊥) → cell_test C m c ≡ false
met-cell C m c h = ap (λ (z : Bool). leb 1 c && (leb c C && z)) (ne_eqb (get_or m c 0) 0 h) ∙ go (leb 1 c) (leb c C)
  where
    go : (x y : Bool) → (x && (y && false)) ≡ false
    go true true = refl
    go true false = refl
    go false y = refl
