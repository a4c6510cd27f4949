-- `tree_narrow::narrow_node` meets its contract, h falling at each call. Assumes nothing.
use mathlib.Core.Path.{sym, ◌∙◌}
use native.Mathlib.Omega.{arith}
use Rattle.tree_check.proofs.CheckSteps.{above-pair}
use Rattle.tree_narrow.proofs.NodeSteps.{exact-few, left-lies, left_not, node-last, node-not, right-lies}
use Prim.Native.Nat.{◌≤◌}
use Rattle.tree_narrow.proofs.+narrow_node.Goals as goal

pub returns-then-s-widest : goal.returns-then-s-widest
returns-then-s-widest t c =
    c.nodes.ensures ∙ exact-few c.args.widest c.requires.0 c.if-s-widest.true

pub returns-in_default : goal.returns-in_default
returns-in_default t c = node-not _ _ _ _ c.args.widest (above-pair c.requires (c.one_load.ensures.1 c.if-one_load.false)) c.in_default.ensures

pub narrow_node-requires : goal.narrow_node-requires
narrow_node-requires t c =
    let tall : 2 ≤ c.args.h = above-pair c.requires (c.one_load.ensures.1 c.if-one_load.false) in
    let n = c.in-Some.ensures in
    (omega (arith, tall), (left-lies tall c.requires.0 n, n.own_is, omega (arith, tall)))

pub returns-then-not-narrow_node : goal.returns-then-not-narrow_node
returns-then-not-narrow_node t c =
    let tall : 2 ≤ c.args.h = above-pair c.requires (c.one_load.ensures.1 c.if-one_load.false) in
    left_not _ _ _ _ c.args.widest tall c.in-Some.ensures (sym c.narrow_node.ensures ∙ c.if-not-narrow_node.true)

pub narrow_node-requires-2 : goal.narrow_node-requires-2
narrow_node-requires-2 t c =
    let tall : 2 ≤ c.args.h = above-pair c.requires (c.one_load.ensures.1 c.if-one_load.false) in
    let n = c.in-Some.ensures in
    (omega (arith, tall), (right-lies tall c.requires.0 n, n.rest-is, omega (arith, tall)))

pub returns : goal.returns
returns t c =
    let tall : 2 ≤ c.args.h = above-pair c.requires (c.one_load.ensures.1 c.if-one_load.false) in
    c.narrow_node-2.ensures
    ∙ node-last _ _ _ _ c.args.widest tall c.in-Some.ensures (sym c.narrow_node.ensures ∙ c.if-not-narrow_node.false)
