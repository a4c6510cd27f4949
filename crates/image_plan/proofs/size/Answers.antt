-- `image_plan::size` meets its contract. Assumes nothing.
use Rattle.image_plan.proofs.PlanLaws.{size-asks, size_is}
use Rattle.image_plan.proofs.size.Goals as goal

pub size_of-requires : goal.size_of-requires
size_of-requires c = size-asks c.requires

pub returns : goal.returns
returns c = size_is c.size_of.result c.size_of.ensures
