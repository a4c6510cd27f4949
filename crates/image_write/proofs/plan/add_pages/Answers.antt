-- `image_write::plan::add_pages` meets its contract. Assumes nothing.
use mathlib.Core.Path.{◌≡◌}
use mathlib.Core.List.{List}
use Prim.Native.Nat.{ℕ, ◌*◌, ◌^◌, ◌<◌}
use native.Mathlib.Omega.{arith}
use lib.ListN.{get_or}
use Rattle.std.proofs.Common.{Fits, w32}
use Rattle.lists.specs.Lists.{sum, window}
use Rattle.image_plan.specs.Code.Planning.{Awaits, Drafted}
use Rattle.image_plan.specs.declared.Plan.{Plan}
use Rattle.image_plan.proofs.PageByPage.{awaited, page-from}
use Rattle.image_write.proofs.ListPages.{window-most}
use Rattle.image_write.proofs.plan.add_pages.Goals as goal

pub overflow_mul-m : goal.overflow_mul-m
overflow_mul-m c =
    let d = c.requires in
    omega (arith, page-from c.args.e c.args.counts.now c.loop-page.page c.power-m.result d.e-high d.short (omega (arith, d.pages-are)) c.power-m.ensures)

pub sum_of-s-requires : goal.sum_of-s-requires
sum_of-s-requires c =
    let d = c.requires in
    omega (arith, page-from c.args.e c.args.counts.now c.loop-page.page c.power-m.result d.e-high d.short (omega (arith, d.pages-are)) c.power-m.ensures)

-- the next page of the list
abbrev awaits : {e : ℕ} {xs : List ℕ} {plan r : Plan} (m p s : ℕ) → Drafted e xs plan → p < plan.pages → Drafted e xs r → r.done ≡ p → m ≡ 2 ^ e
    → ((i : ℕ) → Fits w32 (get_or xs i 0)) → s ≡ sum (window xs (m * p) m) → Awaits r s
awaits {xs = xs} m p s d₀ l d i em b q =
    awaited m p s d i (omega (arith, d.pages-are, d₀.pages-are)) em q (window-most xs (m * p) m s (λ i. omega (arith, b i)) q)

pub add_page-next-requires : goal.add_page-next-requires
add_page-next-requires c =
    let i = c.loop-page.invariant in
    awaits c.power-m.result c.loop-page.page c.sum_of-s.result c.requires c.loop-page-test.true i.drafted i.at c.power-m.ensures c.type_inv.counts
    c.sum_of-s.ensures

pub loop-page-preserved : goal.loop-page-preserved
loop-page-preserved c =
    let i = c.loop-page.invariant in
    record {
      drafted =
          c.add_page-next.ensures.1
          (awaits c.power-m.result c.loop-page.page c.sum_of-s.result c.requires c.loop-page-test.true i.drafted i.at c.power-m.ensures c.type_inv.counts
          c.sum_of-s.ensures);
      at = omega (arith, c.add_page-next.ensures.0);
    }
