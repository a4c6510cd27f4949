-- `hourlog_c::image_calls::hourlog_image_to_bcd` meets its contract. Assumes nothing.
use Rattle.hourlog_c.proofs.BookExports.{to-answers}
use Rattle.hourlog_c.proofs.image_calls.hourlog_image_to_bcd.Goals as goal

pub returns : goal.returns
returns c = to-answers _ _ _ _ _ c.of_number.ensures.image c.to_bcd.ensures
