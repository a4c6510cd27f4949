-- `hourlog_c::image_calls::hourlog_image_merge` meets its contract. Assumes nothing.
use Rattle.hourlog_c.proofs.MergeExport.{merge-answers}
use Rattle.hourlog_c.proofs.image_calls.hourlog_image_merge.Goals as goal

pub returns : goal.returns
returns c = merge-answers _ _ _ _ _ _ _ c.of_number.ensures.image c.merge.ensures
