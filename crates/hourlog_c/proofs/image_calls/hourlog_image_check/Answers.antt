-- `hourlog_c::image_calls::hourlog_image_check` meets its contract. Assumes nothing.
use Rattle.hourlog_c.proofs.Exports.{check-answers}
use Rattle.hourlog_c.proofs.image_calls.hourlog_image_check.Goals as goal

pub returns : goal.returns
returns c = check-answers _ _ _ c.of_check.ensures c.check.ensures
