-- `bits_word::joined` meets its contract: the shift loses nothing, and y is below 2 ^ n, so `|` adds it. Assumes nothing.
use native.Mathlib.Nat.{mod-eq_of_lt}
use lib.Bits.{or_shifted}
use Rattle.bits_word.proofs.joined.Goals as goal

pub returns : goal.returns
returns c = rw (mod-eq_of_lt c.requires.2) (or_shifted c.args.x c.args.n c.args.y c.requires.1)
