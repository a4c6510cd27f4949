-- `hourlog_c::image_calls::hourlog_image_count` meets its contract. Assumes nothing.
use Prim.Native.Nat.{ℕ}
use Rattle.hourlog_c.proofs.Exports.{count-answers}
use Rattle.hourlog_c.proofs.image_calls.hourlog_image_count.Goals as goal

pub returns : goal.returns
returns c = count-answers _ _ _ _ (λ (j : ℕ). (c.type_inv.image j).fits) c.of_number.ensures.image (rw c.from.ensures at c.count.ensures)
