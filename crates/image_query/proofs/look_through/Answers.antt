-- `image_query::look_through` meets its contract. Assumes nothing.
use Rattle.image_query.proofs.LookSteps.{through-bad, through-good}
use Rattle.image_query.proofs.look_through.Goals as goal

pub returns-then-not-ends_well : goal.returns-then-not-ends_well
returns-then-not-ends_well c = through-bad c.ends_well.ensures c.if-not-ends_well.true

pub returns : goal.returns
returns c = through-good c.ends_well.ensures c.if-not-ends_well.false c.look_in.ensures
