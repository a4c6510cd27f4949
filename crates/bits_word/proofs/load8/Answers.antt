-- `bits_word::load8` meets its contract. Assumes nothing.
use Rattle.std.proofs.Common.{arith}
use Rattle.bits.proofs.Bytes.{word-at}
use Rattle.bits_word.proofs.load8.Goals as goal

pub returns : goal.returns
returns c = word-at c.args.s.now c.args.i _ (λ j. omega (arith, c.type_inv.s j)) c.requires c.from_be_bytes.ensures
