-- `hourlog_c::image_calls::hourlog_image_reach` meets its contract. Assumes nothing.
use Rattle.hourlog_c.proofs.Exports.{reach-answers}
use Rattle.hourlog_c.proofs.image_calls.hourlog_image_reach.Goals as goal

pub returns : goal.returns
returns c = reach-answers _ _ _ _ c.of_number.ensures.image c.reach.ensures
