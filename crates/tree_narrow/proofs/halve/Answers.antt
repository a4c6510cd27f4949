-- `tree_narrow::halve` meets its contract. Assumes nothing.
use Prim.Native.Nat.{◌+◌, ◌≤◌}
use native.Mathlib.Omega.{arith}
use Rattle.tree.proofs.Rooting.{halves, left-sum}
use Rattle.tree_narrow.proofs.NodeSteps.{read_above, read_damaged, read_whole, spare-in}
use Rattle.tree_narrow.proofs.halve.Goals as goal
use Rattle.tree_narrow.proofs.halve.Goals.{After-reserve-rest}

-- the left-over bits start no later than the tree ends
spare : (c : After-reserve-rest) → c.args.at + c.digits_of-t.result + c.reserve-own.result + c.reserve-rest.result ≤ c.args.at + c.args.r
spare c =
    spare-in c.args.at c.args.h c.first-left.result c.digits_of-t.ensures c.in_ok-right.ensures c.reserve-own.ensures c.reserve-rest.ensures c.requires

pub first-left-requires : goal.first-left-requires
first-left-requires c = omega (arith, c.digits_of-t.ensures, halves 0 c.requires.0 (omega arith))

pub returns-in_err-right : goal.returns-in_err-right
returns-in_err-right c =
    rw c.from_residual.ensures
    (read_above _ _ _ _ (left-sum _ _ _ _ _ c.digits_of-t.ensures c.first-left.ensures) (omega (arith, c.in_err-right.ensures)))

pub overflow_add-second : goal.overflow_add-second
overflow_add-second c = omega (arith, spare (goal.at.overflow_add-second c).After-reserve-rest, c.requires.0.small, c.requires.1)

pub overflow_add-spare : goal.overflow_add-spare
overflow_add-spare c = omega (arith, spare (goal.at.overflow_add-spare c).After-reserve-rest, c.requires.0.small, c.requires.1)

pub overflow_sub-at : goal.overflow_sub-at
overflow_sub-at c = omega (arith, spare (goal.at.overflow_sub-at c).After-reserve-rest, c.requires.0.small, c.requires.1)

pub zero_bits-requires : goal.zero_bits-requires
zero_bits-requires c =
    omega (arith, spare (goal.at.zero_bits-requires c).After-reserve-rest, c.requires.0.small, c.requires.1, c.requires.0.inside, c.requires.0.long)

pub returns-then-not-zero_bits : goal.returns-then-not-zero_bits
returns-then-not-zero_bits c =
    read_damaged c.args.at c.args.h c.first-left.result c.digits_of-t.ensures c.in_ok-right.ensures c.reserve-own.ensures c.reserve-rest.ensures _ _ _
    (left-sum _ _ _ _ _ c.digits_of-t.ensures c.first-left.ensures) c.requires.1 c.zero_bits.ensures c.if-not-zero_bits.true

pub returns : goal.returns
returns c =
    read_whole c.args.at c.args.h c.first-left.result c.digits_of-t.ensures c.in_ok-right.ensures c.reserve-own.ensures c.reserve-rest.ensures _ _ _
    (left-sum _ _ _ _ _ c.digits_of-t.ensures c.first-left.ensures) c.requires.1 c.zero_bits.ensures c.if-not-zero_bits.false
