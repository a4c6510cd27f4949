-- `bits_field::front::load` meets its contract. Assumes nothing.
use Rattle.bits_field.proofs.Leading.{front-is}
use Rattle.bits_field.proofs.front.load.Goals as goal

pub returns : goal.returns
returns c =
    front-is c.args.s.now c.place-o.result c.args.at c.load8.result c.place-o.ensures c.requires.2 c.load8.ensures
