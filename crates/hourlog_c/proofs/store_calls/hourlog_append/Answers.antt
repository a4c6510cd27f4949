-- `hourlog_c::store_calls::hourlog_append` meets its contract. Assumes nothing.
use Prim.Native.Nat.{ℕ}
use Rattle.hourlog_c.proofs.Exports.{change-answers}
use Rattle.hourlog_c.proofs.store_calls.hourlog_append.Goals as goal

pub returns : goal.returns
returns c =
    let r = change-answers _ _ _ _ _ _ (λ (j : ℕ). (c.slice_known-1.given j).fits) c.of_change.ensures (c.append.ensures.called, c.append.ensures.takes_at_most) in
    record { answers = r.0; costs = r.1 }
