-- `tree_walk::by_index::walk_four` meets its contract. Assumes nothing.
use Prim.Native.Nat.{◌≤◌}
use native.Mathlib.Omega.{arith}
use Rattle.tree.proofs.OneWord.{left-read, three-fields}
use Rattle.tree_walk.proofs.LowPairs.{pair_fit, pick-le, skipped, walk-above, walk-two-bad, walk-two}
use Rattle.tree_walk.proofs.by_index.walk_four.Goals as goal

pub part-left-requires : goal.part-left-requires
part-left-requires c =
    let s = c.args.s in
    omega (arith, c.requires.0, c.digits_of.ensures, three-fields s 0 (omega arith))

pub returns-then-s-left : goal.returns-then-s-left
returns-then-s-left c = λ b a o. walk-above 1 _ _ b a (left-read o _ _ c.digits_of.ensures c.part-left.ensures) c.if-s-left.true _ _ _

pub returns-in_err-second : goal.returns-in_err-second
returns-in_err-second c =
    λ b a o.
    rw c.from_residual.ensures
    (walk-two-bad o _ (left-read o _ _ c.digits_of.ensures c.part-left.ensures) c.if-s-left.false _ _ _ c.one_pair-p.ensures c.in_err-second.ensures)

pub overflow_sub-first : goal.overflow_sub-first
overflow_sub-first c = rw c.either.ensures (skipped _)

pub overflow_add-result : goal.overflow_add-result
overflow_add-result c =
    let fits = pair_fit c.args.keep c.requires.2 c.if-s-left.false c.in_ok-second.ensures.0 c.one_pair-p.ensures in
    omega (arith, fits, c.requires)

pub overflow_add-result-2 : goal.overflow_add-result-2
overflow_add-result-2 c =
    let fits = pair_fit c.args.keep c.requires.2 c.if-s-left.false c.in_ok-second.ensures.0 c.one_pair-p.ensures in
    let z : c.either-within.result ≤ c.one_pair-p.result.sum = rw c.either-within.ensures (pick-le _ (omega (arith, fits)) (omega (arith, fits, c.in_ok-second.ensures.1))) in
    omega (arith, fits, c.requires)

pub returns : goal.returns
returns c =
    λ b a o.
    walk-two o _ (left-read o _ _ c.digits_of.ensures c.part-left.ensures) c.if-s-left.false _ _ _ c.one_pair-p.ensures c.in_ok-second.ensures.0 _ _
    c.either.ensures (rw c.in_ok-second.ensures.1 at c.either-within.ensures)
