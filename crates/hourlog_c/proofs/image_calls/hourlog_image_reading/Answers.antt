-- `hourlog_c::image_calls::hourlog_image_reading` meets its contract. Assumes nothing.
use Prim.Native.Nat.{ℕ}
use Rattle.hourlog_c.proofs.Exports.{reading-answers}
use Rattle.hourlog_c.proofs.image_calls.hourlog_image_reading.Goals as goal

pub returns : goal.returns
returns c = reading-answers _ _ _ _ (λ (j : ℕ). (c.type_inv.image j).fits) c.of_number.ensures.image (rw c.from.ensures at c.reading.ensures)
