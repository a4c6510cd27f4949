-- A store's shape, as tests and as facts. Assumes nothing.
use mathlib.Core.Path.{◌≡◌, refl}
use mathlib.Core.Bool.{Bool, true}
use mathlib.Core.List.{List, [], ◌∷◌, ◌++◌}
use Prim.Native.Nat.{ℕ, ◌*◌}
use lib.ListN.{length}
use borrow.Author.Tests.{eq-eqb, eqb-true, le-leb, leb-true}
use Rattle.lists.specs.Lists.{every}
use Rattle.lists.proofs.Tests.{both, each, every_of, left, right, same-eq, same-is}
use Rattle.store.specs.Layout.{size}
use Rattle.store.specs.Limits.{max_cells, max_pages}
use Rattle.store.specs.Reading.{cells_of, hours_in, page_count_of}
use Rattle.store.specs.Shape.{Shaped, shape_tests}

-- tests, and one more
pub with-last : (bs : List Bool) (b : Bool) → every (bs ++ b ∷ []) ≡ true → (every bs ≡ true) × (b ≡ true)
unfolding every
with-last [] b e = (refl, left b true e)
with-last (a ∷ bs) b e = let w = with-last bs b (right a (every (bs ++ b ∷ [])) e) in (both (left a (every (bs ++ b ∷ [])) e) w.0, w.1)

pub shaped-so : (s : List ℕ) → Shaped s → every (shape_tests s) ≡ true
shaped-so s h =
    let w = h.fitting in
    let l = w.limits in
    every_of (shape_tests s) (
      same-eq _ _ h.edition,
      (
        same-eq _ _ h.gap,
        (
          le-leb _ _ l.pages-low,
          (
            le-leb _ _ l.pages-high,
            (le-leb _ _ l.cells_low, (le-leb _ _ l.cells-high, (eq-eqb _ _ w.long, (le-leb _ _ h.hours, tt)))),
          ),
        ),
      ),
    )

pub shaped : (s : List ℕ) → every (shape_tests s) ≡ true → Shaped s
shaped s e =
    let w = each (shape_tests s) e in
    let t = w.1.1 in
    record {
      edition = same-is _ _ w.0;
      gap = same-is _ _ w.1.0;
      fitting = record {
        limits = record {
          pages-low = leb-true 1 (page_count_of s) t.0;
          pages-high = leb-true (page_count_of s) max_pages t.1.0;
          cells_low = leb-true 1 (cells_of s) t.1.1.0;
          cells-high = leb-true (cells_of s) max_cells t.1.1.1.0;
        };
        long = eqb-true (length s) (size (page_count_of s) (cells_of s)) t.1.1.1.1.0;
      };
      hours = leb-true (hours_in s) (64 * page_count_of s) t.1.1.1.1.1.0;
    }
