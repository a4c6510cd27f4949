-- `freeze_plan::parts::part_sums` meets its contract, h falling at each call. Assumes nothing.
use Rattle.freeze_plan.proofs.parts.+part_sums.Given as goal

abbrev pub decreases-part_sums : goal.decreases-part_sums
decreases-part_sums l = l.h
