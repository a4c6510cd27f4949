-- `bits_field::front::part` meets its contract. Assumes nothing.
use Rattle.bits_field.proofs.Leading.{part-is}
use Rattle.bits_field.proofs.front.part.Goals as goal

pub returns : goal.returns
returns c = part-is c.args.w c.args.k c.args.n c.requires.0 c.requires.2
