-- `move_plan::leaving::look_up` meets its contract. The loop's invariant: the pages that were passed have their entries. Assumes nothing.
use Rattle.store.specs.Reading.{list_in}
use Rattle.move_plan.specs.Code.Plan.{Counted, Leaves}
use Rattle.move_plan.proofs.leaving.look_up.Given as goal

abbrev pub invariant-loop-p : goal.invariant-loop-p
invariant-loop-p l = record { leaves : Leaves l.m (list_in l.s) l.leaving l.p; counted : Counted l.m (list_in l.s) l.old l.p }
