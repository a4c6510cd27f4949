-- `hourlog_c::image_calls::hourlog_image_match` meets its contract. Assumes nothing.
use Rattle.hourlog_c.proofs.Exports.{match-answers}
use Rattle.hourlog_c.proofs.image_calls.hourlog_image_match.Goals as goal

pub returns : goal.returns
returns c = match-answers _ _ _ _ c.of_bag.ensures c.matching.ensures
