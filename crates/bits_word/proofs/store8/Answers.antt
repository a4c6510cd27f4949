-- `bits_word::store8` meets its contract. Assumes nothing.
use Rattle.std.proofs.Common.{arith, ◌∙◌}
use Rattle.bits.proofs.Bytes.{word_put}
use Rattle.bits_word.proofs.store8.Goals as goal

pub returns : goal.returns
returns c = word_put _ _ _ _ _ c.ranges.w.fits (omega arith) (c.copy_from_slice.ensures.after ∙ c.to_be_bytes.ensures)
