-- `tree_word::eight_of` meets its contract. Assumes nothing.
use mathlib.Core.Path.{refl}
use native.Mathlib.Omega.{arith}
use Rattle.bits.specs.Bits.{field}
use Rattle.tree_word.proofs.Decoding.{joined-written}
use Rattle.tree_word.proofs.eight_of.Goals as goal

pub returns : goal.returns
returns c =
    let a = c.args in
    let r = c.halves.result in
    joined-written 2 r.0.sum r.1.sum (field 64 r.0.bits) (field 64 r.1.bits) c.halves.ensures.counts a.out.now _ _ a.from 4 refl (omega (arith, c.requires.1))
    c.four_small.ensures c.four_small-2.ensures
