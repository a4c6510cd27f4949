-- `book_in::plan::add_pages` meets its contract. Assumes nothing.
use mathlib.Core.Path.{◌≡◌}
use mathlib.Core.List.{List}
use Prim.Native.Nat.{ℕ, ◌*◌, ◌^◌, ◌≤◌, ◌<◌}
use native.Mathlib.Omega.{arith}
use Rattle.lists.specs.Lists.{sum, window}
use Rattle.image_plan.specs.Code.Planning.{Awaits, Drafted}
use Rattle.image_plan.specs.declared.Plan.{Plan}
use Rattle.image_plan.proofs.PageByPage.{awaited, page-from}
use Rattle.book_in.proofs.plan.add_pages.Goals as goal

-- page p is one of the list
size : {e : ℕ} {xs : List ℕ} {plan : Plan} (m p : ℕ) → Drafted e xs plan → p < plan.pages → m ≡ 2 ^ e → (m * p < 65536) × (m ≤ 256)
size {e} {xs} m p d l em = page-from e xs p m d.e-high d.short (omega (arith, d.pages-are)) em

pub overflow_mul-m : goal.overflow_mul-m
overflow_mul-m c = omega (arith, size c.power-m.result c.loop-page.page c.requires c.loop-page-test.true c.power-m.ensures)

pub sum_at-s-requires : goal.sum_at-s-requires
sum_at-s-requires c = omega (arith, size c.power-m.result c.loop-page.page c.requires c.loop-page-test.true c.power-m.ensures)

-- it is the next
abbrev awaits : {e : ℕ} {xs : List ℕ} {plan r : Plan} (m p s : ℕ) → Drafted e xs plan → p < plan.pages → Drafted e xs r → r.done ≡ p → m ≡ 2 ^ e
    → (s ≡ sum (window xs (m * p) m)) × (s ≤ 16665 * m) → Awaits r s
awaits m p s d₀ l d i em q = awaited m p s d i (omega (arith, d.pages-are, d₀.pages-are)) em q.0 (omega (arith, q.1))

pub add_page-next-requires : goal.add_page-next-requires
add_page-next-requires c =
    let i = c.loop-page.invariant in
    awaits c.power-m.result c.loop-page.page c.sum_at-s.result c.requires c.loop-page-test.true i.drafted i.at c.power-m.ensures c.sum_at-s.ensures

pub loop-page-preserved : goal.loop-page-preserved
loop-page-preserved c =
    let i = c.loop-page.invariant in
    record {
      drafted =
          c.add_page-next.ensures.1
          (awaits c.power-m.result c.loop-page.page c.sum_at-s.result c.requires c.loop-page-test.true i.drafted i.at c.power-m.ensures c.sum_at-s.ensures);
      at = omega (arith, c.add_page-next.ensures.0);
    }
