-- `image_merge::block::Pair::layout` meets its contract. Assumes nothing.
use Rattle.image_merge.proofs.PlanLaws.{hours-are, not-refused, own-e}
use Rattle.image_merge.proofs.block.Pair.layout.Goals as goal

pub returns-in_err-plan : goal.returns-in_err-plan
returns-in_err-plan c =
    absurd (not-refused c.args.e c.max.result c.in_err-plan.field-0.0 c.requires.0 c.requires.1 (hours-are c.args.self.now c.max.result c.max.ensures).1
    c.in_err-plan.ensures)

pub draft-requires : goal.draft-requires
draft-requires c =
    let d = c.in_ok-plan.ensures.1 _ (hours-are c.args.self.now c.max.result c.max.ensures).0 in
    (own-e d, c.in_ok-plan.ensures.0)

pub returns : goal.returns
returns c =
    let d = c.in_ok-plan.ensures.1 _ (hours-are c.args.self.now c.max.result c.max.ensures).0 in
    rw d.e-is at c.draft.ensures
