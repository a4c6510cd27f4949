-- `bits_word::with_field` meets its contract. Assumes nothing.
use native.Mathlib.Nat.{mod-lt}
use lib.Pow.{pow_pos}
use Rattle.bits.proofs.Words.{both-fit, with-is}
use native.Mathlib.Omega.{arith}
use Rattle.bits_word.proofs.with_field.Goals as goal

pub joined-requires-2 : goal.joined-requires-2
joined-requires-2 c = (
  omega arith,
  rw c.low_bits.ensures (mod-lt c.args.w (pow_pos c.args.low)),
  both-fit c.args.w c.args.n c.args.low c.args.v c.joined.result
      c.ranges.w.fits c.requires.0 c.requires.3 c.joined.ensures,
)

pub returns : goal.returns
returns c =
    let a = c.args in
    with-is a.w a.n a.low a.v c.joined.result c.low_bits.result c.joined-2.result
    c.joined.ensures c.low_bits.ensures c.joined-2.ensures
