-- `tree_whole::fits` meets its contract. Assumes nothing.
use native.Mathlib.Omega.{arith}
use borrow.Author.Tests.{ltb-true}
use Rattle.tree_whole.proofs.SmallTrees.{sixteen, thirty_two, sixty-four}
use Rattle.tree_whole.proofs.fits.Goals as goal

pub returns-in-4 : goal.returns-in-4
returns-in-4 c = λ e. sixteen (omega arith) (omega arith)

pub returns-in-5 : goal.returns-in-5
returns-in-5 c = λ e. thirty_two (omega arith) (omega (arith, ltb-true c.args.s _ e))

pub returns-in-6 : goal.returns-in-6
returns-in-6 c = λ e. sixty-four (omega arith) (omega (arith, ltb-true c.args.s _ e))
