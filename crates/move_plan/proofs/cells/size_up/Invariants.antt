-- `move_plan::cells::size_up` meets its contract. The loop's invariant: the need of the pages that were passed. Assumes nothing.
use mathlib.Core.Path.{◌≡◌}
use Prim.Native.Nat.{◌+◌, ◌*◌, ◌≤◌}
use Rattle.store.specs.Plain.{need}
use Rattle.store.specs.Reading.{list_in}
use Rattle.move_plan.specs.Code.Plan.{Counted, shifted}
use Rattle.move_plan.proofs.cells.size_up.Given as goal

abbrev pub invariant-loop-p : goal.invariant-loop-p
invariant-loop-p l = record {
  counted : Counted l.m (shifted l.m (list_in l.s)) l.new l.p;
  moved : need (shifted l.m (list_in l.s)) l.p + l.had ≡ need (list_in l.s) l.p + l.asked;
  had-low : l.had ≤ need (list_in l.s) l.p;
  asked_low : l.asked ≤ 8 * l.p;
}
