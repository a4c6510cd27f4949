-- The header's tests, one by one. Assumes nothing.
use mathlib.Core.Path.{◌≡◌, refl, sym, ap, ap₂, ◌∙◌}
use mathlib.Core.Bool.{Bool, true, false, true≢false}
use mathlib.Core.List.{List, [], ◌∷◌}
use Prim.Native.Nat.{ℕ, ◌+◌, ◌*◌, ◌≤◌, ◌<◌}
use native.Mathlib.Omega.{arith}
use lib.ListN.{length, drop, length-drop}
use lib.Seq.{length-take-le}
use lib.Dec.{leb}
use borrow.Author.Tests.{le-leb, leb-true}
use Rattle.lists.specs.Lists.{every, part, sum, tabulate}
use Rattle.lists.proofs.Tests.{agree, each, every-last, every_of}
use Rattle.bits.specs.Numbers.{number, number_at}
use Rattle.store.specs.Code.Head.{HeadOf}
use Rattle.store.specs.Reading.{cells_of, hours_in, page_count_of, sum_in}
use Rattle.store.specs.declared.header.Header.{Header}
use Rattle.store.specs.Code.Checked.{head_tests}
use Rattle.store.specs.Limits.{max_cells, max_pages, max_total}
use Rattle.store.specs.Fitting.{Fitting, fits}
use Rattle.store.specs.Layout.{header_length, size}
use Rattle.store.specs.Shape.{Shaped, shape_tests}
use Rattle.store.proofs.LimitLaws.{fits-so}
use Rattle.store.proofs.ShapeLaws.{shaped, shaped-so, with-last}

-- two bytes, of which the second is 0, and their number
pub pair-number : (s : List ℕ) (a x : ℕ) → part s a 2 ≡ x ∷ 0 ∷ [] → number_at s a 2 ≡ x
unfolding number
pair-number s a x e = ap number e ∙ omega arith

pub pair-bytes : (s : List ℕ) (a x : ℕ) → a + 2 ≤ length s → x < 256 → number_at s a 2 ≡ x → part s a 2 ≡ x ∷ 0 ∷ []
unfolding number
pair-bytes s a x l h e = pair (part s a 2) (length-take-le 2 (drop a s) (omega (arith, length-drop a s))) e
  where
    pair : (bs : List ℕ) → length bs ≡ 2 → number bs ≡ x → bs ≡ x ∷ 0 ∷ []
    pair [] n e = absurd (omega (arith, n))
    pair (b ∷ []) n e = absurd (omega (arith, n))
    pair (b ∷ d ∷ []) n e =
        let p : b ≡ x = omega arith in
        let q : d ≡ 0 = omega arith in
        ap₂ (λ (y z : ℕ). y ∷ z ∷ []) p q
    pair (b ∷ d ∷ f ∷ bs) n e = absurd (omega (arith, n))

-- ---- the shape: a test that fails, and the last
pub shape-no : (s : List ℕ) → (Shaped s → ⊥) → false ≡ every (shape_tests s)
shape-no s h = go (every (shape_tests s)) refl
  where
    go : (b : Bool) → every (shape_tests s) ≡ b → false ≡ b
    go true e = absurd (h (shaped s e))
    go false e = refl

-- pages, cells or a length that are wrong
pub unfit : (s : List ℕ) → fits s (page_count_of s) (cells_of s) ≡ false → false ≡ every (shape_tests s)
unfit s e = shape-no s (λ h. true≢false (sym (fits-so s (page_count_of s) (cells_of s) h.fitting) ∙ e))

-- the tests but the last are passed
pub shape-last : (s : List ℕ) {P N : ℕ} → 16 ≤ length s → P ≡ page_count_of s → N ≡ hours_in s → number_at s 0 2 ≡ 1 → number_at s 10 2 ≡ 0
    → Fitting s (page_count_of s) (cells_of s) → leb N (64 * P) ≡ every (shape_tests s)
shape-last s {P} {N} l p n x y f =
    agree (leb N (64 * P)) (every (shape_tests s))
    (λ q. shaped-so s (record {
      edition = pair-bytes s 0 1 (omega arith) (omega arith) x;
      gap = pair-bytes s 10 0 (omega arith) (omega arith) y;
      fitting = f;
      hours = omega (arith, leb-true N (64 * P) q);
    }))
    (λ q. le-leb N (64 * P) (omega (arith, (shaped s q).hours)))

-- ---- and the total
pub headed : (s : List ℕ) → every (head_tests s) ≡ true → Shaped s
unfolding head_tests
headed s e =
    let w = with-last (leb header_length (length s) ∷ shape_tests s) (leb (sum (tabulate (page_count_of s) (sum_in s))) max_total) e in
    shaped s (every_of (shape_tests s) (each (leb header_length (length s) ∷ shape_tests s) w.0).1)

pub head-no : (s : List ℕ) → every (shape_tests s) ≡ false → false ≡ every (head_tests s)
head-no s n = go (every (head_tests s)) refl
  where
    go : (b : Bool) → every (head_tests s) ≡ b → false ≡ b
    go true e = absurd (true≢false (sym (shaped-so s (headed s e)) ∙ n))
    go false e = refl

pub head-last : (s : List ℕ) → every (shape_tests s) ≡ true → leb (sum (tabulate (page_count_of s) (sum_in s))) max_total ≡ every (head_tests s)
unfolding head_tests
head-last s e =
    sym (every-last (leb header_length (length s) ∷ shape_tests s) (leb (sum (tabulate (page_count_of s) (sum_in s))) max_total)
    (every_of (leb header_length (length s) ∷ shape_tests s)
    (le-leb header_length (length s) (omega (arith, (shaped s e).fitting.long)), each (shape_tests s) e)))

-- what the walk over the pages needs of it, by the header that was read
pub record Bounds (s : List ℕ) (h : Header) : Type 0 where
  pub pages-high : h.pages ≤ max_pages
  pub cells-high : h.cells ≤ max_cells
  pub size : length s ≡ size h.pages h.cells

pub bounds : (s : List ℕ) (h : Header) → every (head_tests s) ≡ true → HeadOf s h → Bounds s h
bounds s h e f =
    let w = headed s e in
    record {
      pages-high = omega (arith, w.fitting.limits.pages-high, f.pages-is);
      cells-high = omega (arith, w.fitting.limits.cells-high, f.cells_is);
      size = omega (arith, w.fitting.long, f.pages-is, f.cells_is);
    }
