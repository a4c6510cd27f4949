-- `hourlog_c::image_calls::hourlog_image_write` meets its contract. Assumes nothing.
use Rattle.hourlog_c.proofs.Exports.{write-answers}
use Rattle.hourlog_c.proofs.image_calls.hourlog_image_write.Goals as goal

pub returns : goal.returns
returns c = write-answers _ _ _ _ _ _ c.of_number.ensures.image c.write.ensures
