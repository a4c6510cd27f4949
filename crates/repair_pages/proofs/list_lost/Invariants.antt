-- `repair_pages::list_lost` meets its contract. The invariant: the marks, the total and the list are those of the pages passed. Assumes nothing.
use Rattle.repair_pages.proofs.ListSteps.{Turn}
use Rattle.repair_pages.proofs.list_lost.Given as goal

abbrev pub invariant-loop-p : goal.invariant-loop-p
invariant-loop-p l = Turn l.s l.initial.lost l.marks l.lost l.total l.n l.p
