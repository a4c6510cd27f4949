-- `reserve::digits_of` meets its contract. Assumes nothing.
use Rattle.reserve.proofs.Bounds.{digits-by-zeros}
use Rattle.reserve.proofs.digits_of.Goals as goal

pub returns : goal.returns
returns c = digits-by-zeros c.args.s c.ranges.s.fits
