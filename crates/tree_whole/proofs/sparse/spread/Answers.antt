-- `tree_whole::sparse::spread` meets its contract. Assumes nothing.
use native.Mathlib.Omega.{arith}
use Rattle.tree_whole.proofs.FewCounts.{quarters-put}
use Rattle.tree_whole.proofs.sparse.spread.Goals as goal

pub returns : goal.returns
returns c = rw c.from-four.ensures (quarters-put c.args.x c.args.out.now c.args.from (omega arith))
