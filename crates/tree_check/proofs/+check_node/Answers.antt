-- `tree_check::check_node` meets its contract, h falling at each call. Assumes nothing.
use mathlib.Core.Path.{ap, subst, sym, ◌∙◌}
use Prim.Native.Nat.{ℕ, ◌≤◌}
use native.Mathlib.Omega.{arith}
use Rattle.reserve.specs.Reserve.{reserve}
use Rattle.tree.specs.Code.Node.{Lies}
use Rattle.tree.proofs.Rooting.{halves, left-lies, left-sum, right-lies, top}
use Rattle.bits.specs.Bits.{bits}
use Rattle.bits.proofs.Laws.{length-bits}
use Rattle.bits.proofs.Packing.{bits-bytes}
use Rattle.tree_lowest.proofs.NarrowLaws.{narrow-few}
use Rattle.tree_check.proofs.CheckSteps.{Opened, above-pair, not-zero, opened, exact_none, exact-bad, exact-left-not, exact-spare-not, exact-last}
use Rattle.tree_check.proofs.+check_node.Goals as goal
use Rattle.tree_check.proofs.+check_node.Goals.{After-reserve-rest}

pub returns-then-s-eq0 : goal.returns-then-s-eq0
returns-then-s-eq0 t c = exact_none _ _ _ _ c.if-s-eq0.true

pub eight_exact-requires : goal.eight_exact-requires
eight_exact-requires t c =
    let p = c.requires in
    let w = c.eight_in_word.ensures c.if-eight_in_word.true in
    (subst (λ (k : ℕ). Lies c.args.b.now.now c.args.at k c.args.s) w.0 p.0, p.1 ∙ ap (λ (k : ℕ). reserve k c.args.s) w.0, w.1)

-- the node, once both halves' reserves are known
node : (t : ℕ) (c : After-reserve-rest t)
    → Opened c.args.b.now.now c.args.at c.args.h c.args.s c.args.r c.digits_of-t.result c.first-left.result c.reserve-own.result c.reserve-rest.result
node t c =
    opened c.requires (c.one_load.ensures.1 c.if-one_load.false) c.digits_of-t.ensures (left-sum _ _ _ _ _ c.digits_of-t.ensures c.first-left.ensures)
    c.if-s-left.false c.reserve-own.ensures c.reserve-rest.ensures

-- what the left sum's field asks
pub first-left-requires : goal.first-left-requires
first-left-requires t c =
    let tall : 2 ≤ c.args.h = above-pair c.requires (c.one_load.ensures.1 c.if-one_load.false) in
    omega (arith, c.digits_of-t.ensures, halves 0 (top (not-zero tall) c.requires.0) (omega arith))

pub returns-then-s-left : goal.returns-then-s-left
returns-then-s-left t c =
    let tall : 2 ≤ c.args.h = above-pair c.requires (c.one_load.ensures.1 c.if-one_load.false) in
    exact-bad _ _ _ _ (not-zero tall) (left-sum _ _ _ _ _ c.digits_of-t.ensures c.first-left.ensures) c.if-s-left.true

pub overflow_add-first : goal.overflow_add-first
overflow_add-first t c =
    let n = node t (goal.at.overflow_add-first t c).After-reserve-rest in
    omega (arith, n.room, c.requires.0.small, c.requires.1)

pub overflow_add-second : goal.overflow_add-second
overflow_add-second t c =
    let n = node t (goal.at.overflow_add-second t c).After-reserve-rest in
    omega (arith, n.room, c.requires.0.small, c.requires.1)

pub overflow_add-spare : goal.overflow_add-spare
overflow_add-spare t c =
    let n = node t (goal.at.overflow_add-spare t c).After-reserve-rest in
    omega (arith, n.room, c.requires.0.small, c.requires.1)

pub overflow_sub-at : goal.overflow_sub-at
overflow_sub-at t c =
    let n = node t (goal.at.overflow_sub-at t c).After-reserve-rest in
    omega (arith, n.room)

pub zero_bits-requires : goal.zero_bits-requires
zero_bits-requires t c =
    let n = node t (goal.at.zero_bits-requires t c).After-reserve-rest in
    omega (arith, n.room, c.requires)

pub returns-then-not-zero_bits : goal.returns-then-not-zero_bits
returns-then-not-zero_bits t c =
    let n = node t (goal.at.returns-then-not-zero_bits t c).After-reserve-rest in
    exact-spare-not n.inner c.reserve-rest.ensures c.requires.1 (sym c.zero_bits.ensures ∙ c.if-not-zero_bits.true)

pub check_node-requires : goal.check_node-requires
check_node-requires t c =
    let n = node t (goal.at.check_node-requires t c).After-reserve-rest in
    (omega (arith, n.tall), (left-lies c.requires.0 n.inner, c.reserve-own.ensures, omega (arith, n.tall)))

pub returns-then-not-check_node : goal.returns-then-not-check_node
returns-then-not-check_node t c =
    let n = node t (goal.at.returns-then-not-check_node t c).After-reserve-rest in
    exact-left-not n.inner (sym c.check_node.ensures ∙ c.if-not-check_node.true)

pub check_node-requires-2 : goal.check_node-requires-2
check_node-requires-2 t c =
    let n = node t (goal.at.check_node-requires-2 t c).After-reserve-rest in
    (omega (arith, n.tall), (right-lies c.requires.0 n.inner, c.reserve-rest.ensures, omega (arith, n.tall)))

pub returns : goal.returns
returns t c =
    let n = node t (goal.at.returns t c).After-reserve-rest in
    c.check_node-2.ensures
    ∙ exact-last n.inner c.reserve-rest.ensures c.requires.1
    (sym c.zero_bits.ensures ∙ c.if-not-zero_bits.false) (sym c.check_node.ensures ∙ c.if-not-check_node.false)

pub returns-then-one_load : goal.returns-then-one_load
returns-then-one_load t c =
    let b = c.args.b.now.now in
    c.low_within.ensures
    ∙ sym (narrow-few c.args.s c.args.h c.args.s (bits b) c.args.at (bits-bytes b) (omega (arith, c.requires.0.inside, length-bits b)) (omega arith))
