-- `image_write::plan::layout_of` meets its contract. Assumes nothing.
use Rattle.image_write.proofs.plan.layout_of.Goals as goal

pub returns : goal.returns
returns c = c.finish.ensures (record { e = _; xs = _; drafted = c.add_pages.ensures.0; all = c.add_pages.ensures.1 })
