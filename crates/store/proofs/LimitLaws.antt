-- The limits of a store, as tests and as facts. Assumes nothing.
use mathlib.Core.Path.{◌≡◌, refl, sym, ◌∙◌}
use mathlib.Core.Bool.{Bool, true, false, ◌&&◌, and-true}
use mathlib.Core.List.{List}
use mathlib.Core.Logic.{◌↔◌}
use Prim.Native.Nat.{ℕ}
use native.Mathlib.Omega.{arith}
use lib.ListN.{length}
use lib.Dec.{eqb, leb}
use borrow.Author.Tests.{eq-eqb, eqb-true, le-leb, leb-true}
use Rattle.lists.specs.Lists.{every}
use Rattle.lists.proofs.Tests.{each, every_of}
use Rattle.store.specs.Layout.{size}
use Rattle.store.specs.Limits.{Limits, limit_tests, max_cells, max_pages}
use Rattle.store.specs.Fitting.{Fitting, fit_tests, fits}

pub limits-hold : (P C : ℕ) → every (limit_tests P C) ≡ true → Limits P C
limits-hold P C e =
    let w = each (limit_tests P C) e in
    record {
      pages-low = leb-true 1 P w.0;
      pages-high = leb-true P max_pages w.1.0;
      cells_low = leb-true 1 C w.1.1.0;
      cells-high = leb-true C max_cells w.1.1.1.0;
    }

-- two tests in front of others
out : (a b x : Bool) → (a && b) ≡ false → false ≡ (a && (b && x))
out true true x e = absurd (let z : ◌≡◌ {A = ℕ} 0 1 = cc in omega arith)
out true false x e = refl
out false b x e = refl

on : (a b x : Bool) → (a && b) ≡ true → x ≡ (a && (b && x))
on true true x e = refl
on true false x e = absurd (let z : ◌≡◌ {A = ℕ} 0 1 = cc in omega arith)
on false b x e = absurd (let z : ◌≡◌ {A = ℕ} 0 1 = cc in omega arith)

module _ (s : List ℕ) (P C : ℕ) where
  -- what the test says
  pub fitting : fits s P C ≡ true → Fitting s P C
  unfolding fits
  fitting e =
      let w = each (fit_tests s P C) e in
      record {
        limits = record {
          pages-low = leb-true 1 P w.0;
          pages-high = leb-true P max_pages w.1.0;
          cells_low = leb-true 1 C w.1.1.0;
          cells-high = leb-true C max_cells w.1.1.1.0;
        };
        long = eqb-true (length s) (size P C) w.1.1.1.1.0;
      }

  pub fits-so : Fitting s P C → fits s P C ≡ true
  unfolding fits
  fits-so w =
      let l = w.limits in
      every_of (fit_tests s P C) (
        le-leb 1 P l.pages-low,
        (
          le-leb P max_pages l.pages-high,
          (le-leb 1 C l.cells_low, (le-leb C max_cells l.cells-high, (eq-eqb (length s) (size P C) w.long, tt))),
        ),
      )

  pub fitting-exactly : Fitting s P C ↔ (fits s P C ≡ true)
  fitting-exactly = (fits-so, fitting)

  -- the tests, pages and cells and the length
  pub wrong-pages : (leb 1 P && leb P max_pages) ≡ false → false ≡ fits s P C
  unfolding fits every
  wrong-pages e = out (leb 1 P) (leb P max_pages) _ e

  pub wrong-cells : (leb 1 P && leb P max_pages) ≡ true → (leb 1 C && leb C max_cells) ≡ false → false ≡ fits s P C
  unfolding fits every
  wrong-cells e d = out (leb 1 C) (leb C max_cells) _ d ∙ on (leb 1 P) (leb P max_pages) _ e

  pub just-length : (leb 1 P && leb P max_pages) ≡ true → (leb 1 C && leb C max_cells) ≡ true → eqb (length s) (size P C) ≡ fits s P C
  unfolding fits every
  just-length e d =
      sym (and-true (eqb (length s) (size P C))) ∙ on (leb 1 C) (leb C max_cells) _ d ∙ on (leb 1 P) (leb P max_pages) _ e
