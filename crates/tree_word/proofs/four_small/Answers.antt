-- `tree_word::four_small` meets its contract. Assumes nothing.
use native.Mathlib.Omega.{arith}
use Rattle.reserve.proofs.Exact.{digits_le}
use Rattle.tree_word.proofs.four_small.Goals as goal

pub four_by-requires-clause-few : goal.four_by-requires-clause-few
four_by-requires-clause-few c = (digits_le c.args.w.sum 19 (omega (arith, c.requires.0)), c.requires.1)
