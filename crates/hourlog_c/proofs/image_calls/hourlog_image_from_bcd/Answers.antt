-- `hourlog_c::image_calls::hourlog_image_from_bcd` meets its contract. Assumes nothing.
use Rattle.hourlog_c.proofs.BookExports.{from-answers}
use Rattle.hourlog_c.proofs.image_calls.hourlog_image_from_bcd.Goals as goal

pub returns : goal.returns
returns c = from-answers _ _ _ _ _ _ c.of_number.ensures.image c.from_bcd.ensures
