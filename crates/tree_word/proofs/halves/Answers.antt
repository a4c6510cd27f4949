-- `tree_word::halves` meets its contract. Assumes nothing.
use Prim.Native.Nat.{◌+◌, ◌≤◌}
use native.Mathlib.Numerals.{add-one}
use native.Mathlib.Omega.{arith}
use Rattle.reserve.proofs.Exact.{digits_le}
use Rattle.tree_word.proofs.WordHalves.{Top, top-of, short, left_le, behind, left-exact, right-exact, word-halves}
use Rattle.tree_word.proofs.halves.Goals as goal
use Rattle.tree_word.proofs.halves.Goals.{After-own, After-part-left}

pub part-left-requires : goal.part-left-requires
part-left-requires g c = omega (arith, c.digits-t.ensures, digits_le c.args.w.sum 8 c.requires.whole.2)

read : (g : _) (c : After-part-left g) → Top g.row.K c.args.w.sum c.args.w.bits c.digits-t.result c.part-left.result
read g c = top-of c.requires.whole.0 c.args.w.code c.requires.whole.1 c.digits-t.ensures c.part-left.ensures

within : (g : _) (c : After-own g) → c.digits-t.result + c.own.result ≤ 57
within g c =
    let q = top-of c.requires.whole.0 c.args.w.code c.requires.whole.1 c.digits-t.ensures c.part-left.ensures in
    behind q _ _ (c.requires.own_is _ _ (left_le q) c.own.ensures) (left_le q)

pub own-requires : goal.own-requires
own-requires g c = c.requires.own _ (left_le (read g (goal.at.own-requires g c).After-part-left))

pub overflow_add-k : goal.overflow_add-k
overflow_add-k g c = omega (arith, within g (goal.at.overflow_add-k g c).After-own)

pub overflow_shl-first : goal.overflow_shl-first
overflow_shl-first g c = omega (arith, short (read g (goal.at.overflow_shl-first g c).After-part-left))

pub overflow_shl-second : goal.overflow_shl-second
overflow_shl-second g c = omega (arith, within g (goal.at.overflow_shl-second g c).After-own)

pub overflow_sub-second : goal.overflow_sub-second
overflow_sub-second g c = left_le (read g (goal.at.overflow_sub-second g c).After-part-left)

pub invariant_of-first : goal.invariant_of-first
invariant_of-first g c = record { code = left-exact (read g (goal.at.invariant_of-first g c).After-part-left) }

pub invariant_of-second : goal.invariant_of-second
invariant_of-second g c =
    let q = read g (goal.at.invariant_of-second g c).After-part-left in
    record { code = right-exact q _ (c.requires.own_is _ _ (left_le q) c.own.ensures) }

pub returns-clause-sums : goal.returns-clause-sums
returns-clause-sums g c = omega (arith, left_le (read g (goal.at.returns-clause-sums g c).After-part-left))

pub returns-clause-counts : goal.returns-clause-counts
returns-clause-counts g c =
    let q = read g (goal.at.returns-clause-counts g c).After-part-left in
    rw (c.requires.whole.0, add-one) (word-halves q _ (c.requires.own_is _ _ (left_le q) c.own.ensures))
