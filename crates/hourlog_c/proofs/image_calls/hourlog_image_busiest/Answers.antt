-- `hourlog_c::image_calls::hourlog_image_busiest` meets its contract. Assumes nothing.
use Rattle.hourlog_c.proofs.Exports.{busiest-answers}
use Rattle.hourlog_c.proofs.image_calls.hourlog_image_busiest.Goals as goal

pub returns : goal.returns
returns c = busiest-answers _ _ _ _ c.of_stretch.ensures c.busiest.ensures
