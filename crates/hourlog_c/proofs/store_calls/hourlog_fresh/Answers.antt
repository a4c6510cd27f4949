-- `hourlog_c::store_calls::hourlog_fresh` meets its contract. Assumes nothing.
use Rattle.hourlog_c.proofs.Exports.{fresh-answers}
use Rattle.hourlog_c.proofs.store_calls.hourlog_fresh.Goals as goal

pub returns : goal.returns
returns c = fresh-answers _ _ _ _ _ _ c.of_done.ensures c.fresh.ensures
