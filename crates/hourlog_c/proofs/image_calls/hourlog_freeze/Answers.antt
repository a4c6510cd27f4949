-- `hourlog_c::image_calls::hourlog_freeze` meets its contract. Assumes nothing.
use Prim.Native.Nat.{ℕ}
use Rattle.hourlog_c.proofs.Exports.{freeze-answers}
use Rattle.hourlog_c.proofs.image_calls.hourlog_freeze.Goals as goal

pub returns : goal.returns
returns c = freeze-answers _ _ _ _ _ _ (λ (j : ℕ). (c.type_inv.store j).fits) c.of_number.ensures.image c.freeze.ensures
