-- `move_plan::cells::size_up` meets its contract. Assumes nothing.
use mathlib.Core.Path.{refl, ap₂, ◌∙◌}
use Prim.Native.Nat.{ℕ, ◌+◌, ◌-◌}
use native.Mathlib.Omega.{arith}
use Rattle.store.specs.PageCode.{cells}
use Rattle.store.specs.Reading.{list_in}
use Rattle.move_plan.specs.Code.Plan.{shifted}
use Rattle.move_plan.proofs.PlanSteps.{after-fits, cells-asked, counted_next, entry_in, had-few, had-more, need-most}
use Rattle.move_plan.proofs.PlanSteps.{needs-begin, needs-end, needs-more, out-low, pages-few}
use Rattle.move_plan.proofs.cells.size_up.Goals as goal

pub loop-p-init : goal.loop-p-init
loop-p-init c =
    record { counted = λ q l r. absurd (omega arith); moved = needs-begin c.requires.shiftable.0; had-low = omega arith; asked_low = omega arith }

pub entry_at-requires : goal.entry_at-requires
entry_at-requires c = omega (arith, pages-few c.requires.shiftable.0)

pub get-requires-clause-in_bounds : goal.get-requires-clause-in_bounds
get-requires-clause-in_bounds c = omega (arith, entry_in c.requires.shiftable.0 c.loop-p.p (omega arith), c.entry_at.ensures)

pub overflow_sub-sum : goal.overflow_sub-sum
overflow_sub-sum c =
    let o = out-low c.requires.shiftable.0 (omega arith) c.entry_at.ensures c.get.ensures.is (omega arith) c.args.leaving.now c.requires.leaves.0 refl in
    omega (arith, c.from.ensures, o)

pub coming-requires : goal.coming-requires
coming-requires c = (omega arith, omega arith, c.requires.shiftable.1)

pub cells_of-k-requires : goal.cells_of-k-requires
cells_of-k-requires c =
    omega (
      arith,
      c.from.ensures,
      c.from-in-loop-p.ensures,
      after-fits c.requires.shiftable.0 (omega arith) c.entry_at.ensures c.get.ensures.is (omega arith) c.args.leaving.now c.requires.leaves.0
          c.coming.ensures,
    )

pub overflow_add-had : goal.overflow_add-had
overflow_add-had c =
    let l = c.loop-p in
    let o = c.requires.leaves.1 l.p (omega arith) (omega arith) in
    omega (arith, c.from-had.ensures, o, had-few c.requires.shiftable.0 l.p, need-most c.requires.shiftable.0 l.p, pages-few c.requires.shiftable.0)

pub overflow_add-asked : goal.overflow_add-asked
overflow_add-asked c = omega (arith, c.cells_of-k.ensures.1, pages-few c.requires.shiftable.0)

pub loop-p-preserved : goal.loop-p-preserved
loop-p-preserved c =
    let l = c.loop-p in
    let h = c.requires.shiftable.0 in
    let o = c.from-had.ensures ∙ c.requires.leaves.1 l.p (omega arith) (omega arith) in
    let w = ap₂ (λ (a b : ℕ). cells (c.get.result - a + b)) c.from.ensures c.from-in-loop-p.ensures in
    let k = cells-asked h (omega arith) c.entry_at.ensures c.get.ensures.is (omega arith) c.args.leaving.now c.requires.leaves.0
    c.coming.ensures (c.cells_of-k.ensures.0 ∙ w) in
    record {
      counted = counted_next c.args.m (shifted c.args.m (list_in c.args.s.now)) l.new l.p _ (omega arith) l.invariant.counted k;
      moved = needs-more h l.p l.had l.asked l.invariant.moved o k;
      had-low = had-more h l.p l.had l.invariant.had-low o;
      asked_low = omega (arith, c.cells_of-k.ensures.1);
    }

pub returns : goal.returns
returns c =
    let l = c.loop-p in
    record {
      needs = needs-end c.requires.shiftable.0 l.p l.had l.asked (omega arith) l.invariant.moved l.invariant.had-low l.invariant.asked_low;
      counted = λ q f r. l.invariant.counted q f (omega arith);
    }
