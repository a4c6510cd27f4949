-- `hourlog_c::store_calls::hourlog_repair` meets its contract. Assumes nothing.
use Rattle.hourlog_c.proofs.Exports.{repair-answers}
use Rattle.hourlog_c.proofs.store_calls.hourlog_repair.Goals as goal

pub returns : goal.returns
returns c = repair-answers _ _ _ _ _ _ c.of_number.ensures.store c.repair.ensures
