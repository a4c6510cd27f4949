-- `tree_walk::pairs::one_pair` meets its contract. Assumes nothing.
use Prim.Native.Nat.{◌+◌, ◌≤◌}
use native.Mathlib.Omega.{arith}
use Rattle.reserve.specs.Reserve.{digits, reserve}
use Rattle.tree_walk.proofs.LowPairs.{narrow, count_of}
use Rattle.tree_walk.proofs.pairs.one_pair.Goals as goal

pub overflow_add-k : goal.overflow_add-k
overflow_add-k c =
    let within : digits c.args.s + digits c.either-passed.result + digits c.either-sum.result ≤ reserve 2 c.args.s = narrow c.requires.0 c.args.right c.either-sum.ensures c.either-passed.ensures in
    omega (arith, within, c.requires.1, c.digits_of.ensures)

pub overflow_add-k-2 : goal.overflow_add-k-2
overflow_add-k-2 c =
    let within : digits c.args.s + digits c.either-passed.result + digits c.either-sum.result ≤ reserve 2 c.args.s = narrow c.requires.0 c.args.right c.either-sum.ensures c.either-passed.ensures in
    omega (arith, within, c.requires.1, c.digits_of.ensures, c.digits_of-2.ensures)

pub part-count-requires : goal.part-count-requires
part-count-requires c =
    let within : digits c.args.s + digits c.either-passed.result + digits c.either-sum.result ≤ reserve 2 c.args.s = narrow c.requires.0 c.args.right c.either-sum.ensures c.either-passed.ensures in
    omega (arith, within, c.requires.1, c.digits_of.ensures, c.digits_of-2.ensures, c.digits_of-3.ensures)

pub returns : goal.returns
returns c =
    record {
      sum_is = c.either-sum.ensures;
      passed_is = c.either-passed.ensures;
      count-is =
          count_of _ _ _ _ _ _ _ _ _ c.digits_of.ensures c.digits_of-2.ensures c.digits_of-3.ensures
          c.part-count.ensures;
    }
