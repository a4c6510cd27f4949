-- `hourlog_c::store_calls::hourlog_reach` meets its contract. Assumes nothing.
use Prim.Native.Nat.{ℕ}
use Rattle.hourlog_c.proofs.Exports.{live-answers}
use Rattle.hourlog_c.proofs.store_calls.hourlog_reach.Goals as goal

pub returns : goal.returns
returns c = live-answers _ _ _ _ _ (λ (j : ℕ). (c.type_inv.store j).fits) c.of_number.ensures.store c.reach.ensures
