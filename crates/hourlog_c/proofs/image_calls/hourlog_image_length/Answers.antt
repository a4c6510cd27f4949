-- `hourlog_c::image_calls::hourlog_image_length` meets its contract. Assumes nothing.
use Rattle.hourlog_c.proofs.Exports.{length-answers}
use Rattle.hourlog_c.proofs.image_calls.hourlog_image_length.Goals as goal

pub returns : goal.returns
returns c = length-answers _ _ _ _ c.of_number.ensures.image c.length.ensures
