-- `move_plan::leaving::look_up` meets its contract. Assumes nothing.
use mathlib.Core.Path.{◌≡◌, ap, ◌∙◌}
use Prim.Native.Nat.{ℕ}
use native.Mathlib.Omega.{arith}
use lib.ListN.{get_or}
use Rattle.lists.specs.Lists.{sum}
use Rattle.store.specs.PageCode.{cells}
use Rattle.store.specs.Plain.{page}
use Rattle.move_counts.specs.Code.Turned.{leaving_index}
use Rattle.store.specs.Reading.{list_in}
use Rattle.store.proofs.HourLaws.{get_d_le}
use Rattle.pages.proofs.SoundPage.{few, sum_same, sum-small}
use Rattle.move_plan.proofs.PlanSteps.{counted_next, leaves-is, leaves-next}
use Rattle.live_page.proofs.PageTree.{page-same}
use Rattle.move_plan.specs.Code.Plan.{near}
use Rattle.move_plan.proofs.leaving.look_up.Goals.{After-count_of}
use Rattle.move_plan.proofs.leaving.look_up.Goals as goal

pub loop-p-init : goal.loop-p-init
loop-p-init c = record { leaves = λ q l r. absurd (omega arith); counted = λ q l r. absurd (omega arith) }

pub entry_of-page-requires : goal.entry_of-page-requires
entry_of-page-requires c = omega (arith, c.requires.shiftable.inside)

pub near-requires : goal.near-requires
near-requires c = c.requires.shiftable.within

pub count_of-requires : goal.count_of-requires
count_of-requires c = c.leaves_at.ensures.1

-- a page's count that leaves, and its cells
leaves : (c : After-count_of) → c.count_of.result ≡ get_or (page (list_in c.args.s.now) c.loop-p.p) (leaving_index c.args.m.edit (near c.args.m c.loop-p.p)) 0
leaves c =
    c.count_of.ensures ∙ page-same c.entry_of-page.ensures (λ x. get_or x c.leaves_at.result 0)
    ∙ ap (λ (z : ℕ). get_or (page (list_in c.args.s.now) c.loop-p.p) z 0) (c.leaves_at.ensures.0 ∙ ap (leaving_index c.args.m.edit) c.near.ensures.0)

pub overflow_cast-leaving : goal.overflow_cast-leaving
overflow_cast-leaving c =
    let e = c.entry_of-page.result in
    omega (arith, c.count_of.ensures, get_d_le (page (list_in e.bytes.now) e.page) c.leaves_at.result, sum_same e.of_page, sum-small e.of_page)

pub overflow_cast-old : goal.overflow_cast-old
overflow_cast-old c = omega (arith, few c.entry_of-page.result.of_page)

pub loop-p-preserved : goal.loop-p-preserved
loop-p-preserved c =
    let l = c.loop-p in
    let x = list_in c.args.s.now in
    let o = c.entry_of-page.result.of_page in
    let k = o.cells_is ∙ ap cells (sum_same o) ∙ page-same c.entry_of-page.ensures (λ z. cells (sum z)) in
    record {
      leaves = leaves-next c.args.m x l.leaving l.p _ (omega arith) l.invariant.leaves (leaves-is c.args.m x l.p (leaves c));
      counted = counted_next c.args.m x l.old l.p _ (omega arith) l.invariant.counted k;
    }

pub returns : goal.returns
returns c =
    let l = c.loop-p in
    record { leaves = λ q f r. l.invariant.leaves q f (omega arith); counted = λ q f r. l.invariant.counted q f (omega arith) }
