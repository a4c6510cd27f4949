-- `hourlog_c::store_calls::hourlog_insert` meets its contract. Assumes nothing.
use Prim.Native.Nat.{ℕ}
use Rattle.hourlog_c.proofs.Exports.{live-answers}
use Rattle.hourlog_c.proofs.store_calls.hourlog_insert.Goals as goal

pub returns : goal.returns
returns c = live-answers _ _ _ _ _ (λ (j : ℕ). (c.slice_known-1.given j).fits) c.of_change.ensures c.insert.ensures
