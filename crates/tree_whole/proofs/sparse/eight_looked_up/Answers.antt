-- `tree_whole::sparse::eight_looked_up` meets its contract. Assumes nothing.
use native.Mathlib.Omega.{arith}
use Rattle.tree_whole.proofs.FewCounts.{few-code, below, few-written}
use Rattle.tree_whole.proofs.sparse.eight_looked_up.Goals as goal

pub few-few-requires : goal.few-few-requires
few-few-requires c = (c.requires.0, below (few-code c.requires.0 c.args.w.code c.part-v.ensures))

pub returns : goal.returns
returns c =
    few-written (few-code c.requires.0 c.args.w.code c.part-v.ensures) _ _ c.args.out.now _ _ c.args.from c.few-few.ensures (omega arith)
    c.spread.ensures c.spread-2.ensures
