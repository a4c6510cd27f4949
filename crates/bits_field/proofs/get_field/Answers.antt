-- `bits_field::get_field` meets its contract. Assumes nothing.
use lib.ListN.{length}
use Rattle.bits.proofs.Words.{get-is}
use Rattle.bits_field.proofs.Leading.{placed}
use Rattle.bits_field.proofs.get_field.Goals as goal

pub returns : goal.returns
returns c =
    let a = c.args in
    let p = placed a.at (length a.s.now) a.width c.place-o.ensures c.requires.in_bounds c.requires.width_bound.0 c.requires.width_bound.2 in
    get-is a.s.now c.place-o.result a.at a.width c.load8.result c.low_bits.result
    p.0 p.1 p.2 c.load8.ensures c.low_bits.ensures
